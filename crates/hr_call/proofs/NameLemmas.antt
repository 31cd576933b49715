-- The grammar of names passes its test.
use Rattle.std.proofs.Common.{◌≡◌, ◌≢◌, ℕ, true, List, [], ◌∷◌, ◌++◌, refl, sym, ap, ◌∙◌, append-nil, append_assoc, IsTrue}
use Rattle.std.specs.Prelude.{Bool}
use Rattle.std.specs.List.{AllByRecursion}
use Rattle.hr_name.specs.Alphabet.{stands_in_run}
use Rattle.hr_name.specs.Name.{IsComponent, IsName, IsSeparator, run, joined, component, path, dot, underscore, underscores, dashes}
use Rattle.hr_name.specs.Place.{is_name, reach, step}

-- whether a name that has come to the end of a run may go on with this text
abbrev goes_on : List ℕ → Bool
goes_on text = is_name (97 ∷ text)

begun : (b : ℕ) (text : List ℕ) → stands_in_run b ≡ true → is_name (b ∷ text) ≡ goes_on text
unfolding reach step
begun b text is = rw is refl

in_run : (b : ℕ) (text : List ℕ) → stands_in_run b ≡ true → goes_on (b ∷ text) ≡ goes_on text
unfolding reach step
in_run b text is = rw is refl

behind_slash : (b : ℕ) (text : List ℕ) → stands_in_run b ≡ true → goes_on (47 ∷ b ∷ text) ≡ goes_on text
unfolding reach step
behind_slash b text is = rw is refl

behind_dot : (b : ℕ) (text : List ℕ) → stands_in_run b ≡ true → goes_on (46 ∷ b ∷ text) ≡ goes_on text
unfolding reach step
behind_dot b text is = rw is refl

behind_underscore : (b : ℕ) (text : List ℕ) → stands_in_run b ≡ true → goes_on (95 ∷ b ∷ text) ≡ goes_on text
unfolding reach step
behind_underscore b text is = rw is refl

behind_underscores : (b : ℕ) (text : List ℕ) → stands_in_run b ≡ true → goes_on (95 ∷ 95 ∷ b ∷ text) ≡ goes_on text
unfolding reach step
behind_underscores b text is = rw is refl

behind_dash : (b : ℕ) (text : List ℕ) → stands_in_run b ≡ true → goes_on (45 ∷ b ∷ text) ≡ goes_on text
unfolding reach step
behind_dash b text is = rw is refl

two_dashes : (text : List ℕ) → goes_on (45 ∷ 45 ∷ text) ≡ goes_on (45 ∷ text)
unfolding reach step
two_dashes text = refl

at_end : goes_on [] ≡ true
unfolding reach step
at_end = refl

run_goes_on : (text rest : List ℕ) → AllByRecursion (λ byte. IsTrue (stands_in_run byte)) text → goes_on (text ++ rest) ≡ goes_on rest
run_goes_on [] rest all = refl
run_goes_on (b ∷ text) rest all = in_run b (text ++ rest) all.0 ∙ run_goes_on text rest all.1

dashes_go_on : (text : List ℕ) (b : ℕ) (rest : List ℕ) → AllByRecursion (λ byte. byte ≡ 45) text → stands_in_run b ≡ true → goes_on (45 ∷ (text ++ b ∷ rest)) ≡ goes_on rest
dashes_go_on [] b rest all is = behind_dash b rest is
dashes_go_on (d ∷ text) b rest all is =
    ap (λ (x : ℕ). goes_on (45 ∷ x ∷ (text ++ b ∷ rest))) all.0
    ∙ two_dashes (text ++ b ∷ rest) ∙ dashes_go_on text b rest all.1 is

some_dashes : (text : List ℕ) (b : ℕ) (rest : List ℕ) → text ≢ [] → AllByRecursion (λ byte. byte ≡ 45) text → stands_in_run b ≡ true → goes_on (text ++ b ∷ rest) ≡ goes_on rest
some_dashes [] b rest some all is = absurd (some refl)
some_dashes (d ∷ text) b rest some all is =
    ap (λ (x : ℕ). goes_on (x ∷ (text ++ b ∷ rest))) all.0 ∙ dashes_go_on text b rest all.1 is

separator_goes_on : (text : List ℕ) (b : ℕ) (rest : List ℕ) → IsSeparator text → stands_in_run b ≡ true → goes_on (text ++ b ∷ rest) ≡ goes_on rest
separator_goes_on text b rest (dot e) is = ap (λ (t : List ℕ). goes_on (t ++ b ∷ rest)) e ∙ behind_dot b rest is
separator_goes_on text b rest (underscore e) is = ap (λ (t : List ℕ). goes_on (t ++ b ∷ rest)) e ∙ behind_underscore b rest is
separator_goes_on text b rest (underscores e) is = ap (λ (t : List ℕ). goes_on (t ++ b ∷ rest)) e ∙ behind_underscores b rest is
separator_goes_on text b rest (dashes all) is = some_dashes text b rest all.some all.all is

-- a text that begins with a byte of a run, and whose end is the end of a run
record IsBegun (text : List ℕ) : Type 0 where
  pub first : ℕ
  pub back : List ℕ
  pub is : text ≡ first ∷ back
  pub stands : stands_in_run first ≡ true
  pub on : (rest : List ℕ) → goes_on (back ++ rest) ≡ goes_on rest

run_begun : (text : List ℕ) → text ≢ [] → AllByRecursion (λ byte. IsTrue (stands_in_run byte)) text → IsBegun text
run_begun [] some all = absurd (some refl)
run_begun (b ∷ text) some all =
    record { first = b; back = text; is = refl; stands = all.0; on = λ rest. run_goes_on text rest all.1 }

joined_begun : (text first between rest : List ℕ) → text ≡ first ++ (between ++ rest) → IsBegun first → IsSeparator between → IsBegun rest → IsBegun text
joined_begun text first between rest is one separator more = record {
  first = one.first;
  back = one.back ++ (between ++ rest);
  is = is ∙ ap (λ (t : List ℕ). t ++ (between ++ rest)) one.is;
  stands = one.stands;
  on = λ end.
      ap goes_on (append_assoc one.back (between ++ rest) end) ∙ one.on ((between ++ rest) ++ end)
      ∙ ap goes_on (append_assoc between rest end) ∙ ap (λ (t : List ℕ). goes_on (between ++ (t ++ end))) more.is
      ∙ separator_goes_on between more.first (more.back ++ end) separator more.stands ∙ more.on end;
}

component_begun : {text : List ℕ} → IsComponent text → IsBegun text
component_begun {text} (run is) = run_begun text is.some is.all
component_begun {text} (joined {first} {between} {rest} is one separator more) =
    joined_begun text first between rest is (run_begun first one.some one.all) separator (component_begun more)

path_begun : (text first rest : List ℕ) → text ≡ first ++ 47 ∷ rest → IsBegun first → IsBegun rest → IsBegun text
path_begun text first rest is one more = record {
  first = one.first;
  back = one.back ++ 47 ∷ rest;
  is = is ∙ ap (λ (t : List ℕ). t ++ 47 ∷ rest) one.is;
  stands = one.stands;
  on = λ end.
      ap goes_on (append_assoc one.back (47 ∷ rest) end) ∙ one.on (47 ∷ (rest ++ end))
      ∙ ap (λ (t : List ℕ). goes_on (47 ∷ (t ++ end))) more.is
      ∙ behind_slash more.first (more.back ++ end) more.stands ∙ more.on end;
}

name_begun : {text : List ℕ} → IsName text → IsBegun text
name_begun {text} (component is) = component_begun is
name_begun {text} (path {first} {rest} is one more) =
    path_begun text first rest is (component_begun one) (name_begun more)

pub name_passes : (text : List ℕ) → IsName text → is_name text ≡ true
name_passes text is =
    let begins = name_begun is in
    ap is_name begins.is ∙ begun begins.first begins.back begins.stands
    ∙ ap goes_on (sym (append-nil begins.back)) ∙ begins.on [] ∙ at_end
