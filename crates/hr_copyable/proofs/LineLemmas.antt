-- Canonical lines, one after the other: what each registry then holds.
use Rattle.std.proofs.Common.{◌≡◌, ◌≤◌, ◌-◌, inl, inr, ℕ, zero, suc, slice_get, List, [], ◌∷◌, ◌++◌, length, false, Option, Some, None, option_map, unwrap_or, Ok, refl, sym, ap, subst, ◌∙◌}
use Rattle.std.specs.Prelude.{Contains, nat_eq}
use Rattle.std.specs.List.{AllByRecursion}
use Rattle.std.proofs.lemmas.Bool.Decides.{eqb_tells}
use Rattle.std.proofs.lemmas.List.Elements.{Contains-append_left, Contains-append_right}
use Rattle.hr_base.specs.Bytes.{ByteList}
use Rattle.hr_base.specs.declared.number.RegNo.{RegNo}
use Rattle.hr_digest.specs.Digest.{digest_of}
use Rattle.hr_name.specs.Name.{RepoName}
use Rattle.hr_name.specs.Tag.{TagName}
use Rattle.hr_manifest.specs.Canonical.{index_text}
use Rattle.hr_manifest.specs.declared.child.Child.{Child}
use Rattle.hr_script.specs.declared.line.Line.{Line}
use Rattle.hr_script.specs.declared.line.Line.TheVariants as line
use Rattle.hr_script.specs.declared.reading.Numbered.{Numbered}
use Rattle.hr_journal.proofs.ListLaws.{contains_first, contains_later}
use Rattle.hr_opening.specs.Fit.{AreFit, IsFit, IsNumbered}
use Rattle.hr_opening.specs.Opening.{after_line, after_lines, registry_named, setup_after}
use Rattle.hr_opening.specs.Setup.{Setups, no_setup, no_setups, setup_in, with_content}
use Rattle.hr_opening.specs.Stored.{children_of, with_image, with_index, with_orphan}
use Rattle.hr_opening.specs.declared.setup.RegSetup.{RegSetup}
use Rattle.hr_copyable.specs.Canonical.{AreCanonicalAfter, IsCanonical, RegTag, at_tag, tree_of}
use Rattle.hr_copyable.specs.LineTexts.{texts_from, texts_in, texts_of}
use Rattle.hr_copyable.proofs.HoldLemmas.{no_tag, nothing_is_of, some_same}
use Rattle.hr_copyable.proofs.SetupLemmas.{goes_ok, line_changes, line_leaves, ok_same}
use Rattle.hr_copyable.proofs.StepLemmas.{ImagesReadBack, IndexesReadBack, IsWholeTree, Stands, image_stands, index_stands, orphan_stands}

-- nothing is planned for a registry
pub record HasNoPlan (setup : RegSetup) : Type 0 where
  pub failing : setup.failing ≡ []
  pub moves : setup.moves ≡ []

-- a registry of this number after these lines, the newest first
pub record SetupStands (T : ByteList → Type 0) (before : List Line) (reg : ℕ) (setup : RegSetup) : Type 0 where
  pub calm : HasNoPlan setup
  pub stands : Stands T before (record { 0 = reg }) setup.content

-- all of them
pub record AllStand (T : ByteList → Type 0) (before : List Line) (setups : Setups) : Type 0 where
  pub eight : length setups ≡ 8
  pub each : (reg : ℕ) → 1 ≤ reg → SetupStands T before reg (setup_in setups reg)

each_of : {X : Type 0} (P : X → Type 0) (xs : List X) → ((x : X) → Contains xs x → P x) → AllByRecursion P xs
each_of P [] all = tt
each_of P (x ∷ xs) all = (all x (contains_first x xs), each_of P xs (λ y within. all y (contains_later x xs y within)))

-- ---- the registry that a line names

made_along : (T : ByteList → Type 0) (before : List Line) (reg : ℕ) (made new : RegSetup) → Some made ≡ Some new → SetupStands T before reg made
    → SetupStands T before reg new
made_along T before reg made new is stands = subst (SetupStands T before reg) (some_same made new is) stands

module _ (T : ByteList → Type 0) (once : (a b : ByteList) → T a → T b → digest_of a ≡ digest_of b → a ≡ b) (images : ImagesReadBack) (indexes : IndexesReadBack)
    (before : List Line) where
  index_setup : (reg : RegNo) (repo : RepoName) (tag : TagName) (children : List TagName) (old new : RegSetup) → IsCanonical before (line.Index reg repo tag children)
      → SetupStands T before reg.0 old → (found : Option (List Child)) → children_of old.content repo children ≡ found
      → AllByRecursion T (unwrap_or (option_map (λ kids. index_text kids ∷ []) found) [])
      → option_map (λ kids. with_content (with_index repo tag kids) old) found ≡ Some new
      → SetupStands T (line.Index reg repo tag children ∷ before) reg.0 new
  index_setup reg repo tag children old new is stands None found texts made = cc made
  index_setup reg repo tag children old new is stands (Some kids) found texts made =
      made_along T (line.Index reg repo tag children ∷ before) reg.0 (with_content (with_index repo tag kids) old) new made (record {
        calm = record { failing = stands.calm.failing; moves = stands.calm.moves };
        stands = index_stands T once before reg repo old.content stands.stands indexes tag children is.0 is.1 kids found texts.0;
      })

  named_stands : (l : Line) (reg : RegNo) (old new : RegSetup) → registry_named l ≡ Some reg → IsCanonical before l → SetupStands T before reg.0 old
      → AllByRecursion T (texts_of old.content l) → setup_after l old ≡ Some new → SetupStands T (l ∷ before) reg.0 new
  named_stands (line.Image r repo tag layers) reg old new named is stands texts made =
      let at : r ≡ reg = some_same r reg named in
      subst (λ (n : RegNo). SetupStands T (line.Image r repo tag layers ∷ before) n.0 new) at
      (made_along T (line.Image r repo tag layers ∷ before) r.0 (with_content (with_image repo tag layers) old) new made (record {
        calm = record { failing = stands.calm.failing; moves = stands.calm.moves };
        stands = image_stands T once before r repo old.content (subst (λ (n : RegNo). Stands T before n old.content) (sym at) stands.stands) images tag layers is.0 is.1 texts;
      }))
  named_stands (line.Index r repo tag children) reg old new named is stands texts made =
      let at : r ≡ reg = some_same r reg named in
      subst (λ (n : RegNo). SetupStands T (line.Index r repo tag children ∷ before) n.0 new) at
      (index_setup r repo tag children old new is (subst (λ (n : RegNo). SetupStands T before n.0 old) (sym at) stands)
      (children_of old.content repo children) refl texts made)
  named_stands (line.Orphan r repo layers) reg old new named is stands texts made =
      let at : r ≡ reg = some_same r reg named in
      subst (λ (n : RegNo). SetupStands T (line.Orphan r repo layers ∷ before) n.0 new) at
      (made_along T (line.Orphan r repo layers ∷ before) r.0 (with_content (with_orphan repo layers) old) new made (record {
        calm = record { failing = stands.calm.failing; moves = stands.calm.moves };
        stands = orphan_stands T once before r repo old.content (subst (λ (n : RegNo). Stands T before n old.content) (sym at) stands.stands) layers texts.0;
      }))
  named_stands (line.Manifest r repo tag media text) reg old new named is stands texts made = absurd is
  named_stands (line.Break r repo honest stored) reg old new named is stands texts made = absurd is
  named_stands (line.Fault lane r op lands) reg old new named is stands texts made = absurd is
  named_stands (line.Change lane r op repo tag to) reg old new named is stands texts made = absurd is
  named_stands (line.Jobs jobs) reg old new named is stands texts made = cc named
  named_stands (line.Event event) reg old new named is stands texts made = cc named

-- ---- the others

-- a line of another registry says nothing of a tag
other_tree : (l : Line) (before : List Line) (reg : RegNo) (named : RegTag) → registry_named l ≡ Some reg → nat_eq reg.0 named.reg.0 ≡ false
    → tree_of (l ∷ before) named ≡ tree_of before named
other_tree (line.Image r repo tag layers) before reg named is apart =
    let e : nat_eq r.0 named.reg.0 ≡ false = ap (λ (n : RegNo). nat_eq n.0 named.reg.0) (some_same r reg is) ∙ apart in
    rw e refl
other_tree (line.Index r repo tag children) before reg named is apart =
    let e : nat_eq r.0 named.reg.0 ≡ false = ap (λ (n : RegNo). nat_eq n.0 named.reg.0) (some_same r reg is) ∙ apart in
    rw e refl
other_tree (line.Orphan r repo layers) before reg named is apart = refl
other_tree (line.Manifest r repo tag media text) before reg named is apart = refl
other_tree (line.Break r repo honest stored) before reg named is apart = refl
other_tree (line.Fault lane r op lands) before reg named is apart = refl
other_tree (line.Change lane r op repo tag to) before reg named is apart = refl
other_tree (line.Jobs jobs) before reg named is apart = refl
other_tree (line.Event event) before reg named is apart = refl

other_stands : (T : ByteList → Type 0) (l : Line) (before : List Line) (reg : RegNo) (other : ℕ) (setup : RegSetup) → registry_named l ≡ Some reg
    → nat_eq reg.0 other ≡ false → SetupStands T before other setup → SetupStands T (l ∷ before) other setup
other_stands T l before reg other setup named apart stands = record {
  calm = stands.calm;
  stands = record {
    of = stands.stands.of;
    graphs = λ repo tag d is.
        let at = at_tag (record { 0 = other }) repo tag in
        subst (IsWholeTree setup.content repo d) (sym (other_tree l before reg at named apart)) (stands.stands.graphs repo tag d is);
  };
}

-- ---- one line

named_fits : (l : Line) (reg : RegNo) → IsFit l → registry_named l ≡ Some reg → IsNumbered reg
named_fits (line.Image r repo tag layers) reg fit is = subst IsNumbered (some_same r reg is) fit
named_fits (line.Index r repo tag children) reg fit is = subst IsNumbered (some_same r reg is) fit
named_fits (line.Orphan r repo layers) reg fit is = subst IsNumbered (some_same r reg is) fit
named_fits (line.Manifest r repo tag media text) reg fit is = subst IsNumbered (some_same r reg is) fit.0
named_fits (line.Break r repo honest stored) reg fit is = subst IsNumbered (some_same r reg is) fit
named_fits (line.Fault lane r op lands) reg fit is = subst IsNumbered (some_same r reg is) fit.0
named_fits (line.Change lane r op repo tag to) reg fit is = subst IsNumbered (some_same r reg is) fit.0
named_fits (line.Jobs jobs) reg fit is = cc is
named_fits (line.Event event) reg fit is = cc is

-- a line that names no registry says nothing of a tag
no_tree : (l : Line) (before : List Line) (named : RegTag) → registry_named l ≡ None → tree_of (l ∷ before) named ≡ tree_of before named
no_tree (line.Image r repo tag layers) before named is = cc is
no_tree (line.Index r repo tag children) before named is = cc is
no_tree (line.Orphan r repo layers) before named is = refl
no_tree (line.Manifest r repo tag media text) before named is = refl
no_tree (line.Break r repo honest stored) before named is = refl
no_tree (line.Fault lane r op lands) before named is = refl
no_tree (line.Change lane r op repo tag to) before named is = refl
no_tree (line.Jobs jobs) before named is = refl
no_tree (line.Event event) before named is = refl

module _ (T : ByteList → Type 0) (once : (a b : ByteList) → T a → T b → digest_of a ≡ digest_of b → a ≡ b) (images : ImagesReadBack) (indexes : IndexesReadBack) where
  line_stands : (before : List Line) (setups after : Setups) (l : Line) → IsFit l → IsCanonical before l → AllStand T before setups
      → ((x : ByteList) → Contains (texts_in setups l) x → T x) → after_line setups l ≡ Some after → AllStand T (l ∷ before) after
  line_stands before setups after l fit canonical all texts is = go (registry_named l) refl
    where
      texts_named : (reg : RegNo) → registry_named l ≡ Some reg → texts_in setups l ≡ texts_of (setup_in setups reg.0).content l
      texts_named reg named = ap (λ (o : Option RegNo). unwrap_or (option_map (λ (r : RegNo). texts_of (setup_in setups r.0).content l) o) []) named

      named_case : (reg : RegNo) → registry_named l ≡ Some reg → AllStand T (l ∷ before) after
      named_case reg named =
          let fits = named_fits l reg fit named in
          let changes = line_changes setups after l reg named fits all.eight is in
          let of_it = each_of T (texts_of (setup_in setups reg.0).content l)
          (λ x within. texts x (subst (λ (xs : List ByteList). Contains xs x) (sym (texts_named reg named)) within)) in
          let here = named_stands T once images indexes before l reg (setup_in setups reg.0) changes.new named canonical (all.each reg.0 fits.some) of_it changes.made in record {
            eight = changes.eight;
            each = λ other some. elim (eqb_tells reg.0 other) [
              | inl same ↦ subst (λ (n : ℕ). SetupStands T (l ∷ before) n (setup_in after n)) same.1
                  (subst (SetupStands T (l ∷ before) reg.0) (sym changes.here) here)
              | inr apart ↦ subst (SetupStands T (l ∷ before) other) (sym (changes.others other some (λ e. apart.1 (sym e))))
                  (other_stands T l before reg other (setup_in setups other) named apart.0 (all.each other some))
            ];
          }

      go : (o : Option RegNo) → registry_named l ≡ o → AllStand T (l ∷ before) after
      go (Some reg) named = named_case reg named
      go None named =
          subst (AllStand T (l ∷ before)) (line_leaves setups after l named is) (record {
            eight = all.eight;
            each = λ reg some.
                let old = all.each reg some in record {
                  calm = old.calm;
                  stands = record {
                    of = old.stands.of;
                    graphs = λ repo tag d at.
                        subst (IsWholeTree (setup_in setups reg).content repo d) (sym (no_tree l before (at_tag (record { 0 = reg }) repo tag) named))
                        (old.stands.graphs repo tag d at);
                  };
                };
          })

  -- ---- all lines

  pub lines_stand : (before : List Line) (setups last : Setups) (lines : List Numbered) → AreFit lines → AreCanonicalAfter before lines → AllStand T before setups
      → ((x : ByteList) → Contains (texts_from setups lines) x → T x) → after_lines setups lines ≡ Ok last → (all : List Line) × AllStand T all last
  lines_stand before setups last [] fit canonical all texts is =
      (before, subst (AllStand T before) (ok_same setups last is) all)
  lines_stand before setups last (one ∷ rest) fit canonical all texts is =
      let step = goes_ok (λ after. after_lines after rest) one.number (after_line setups one.line) last is in
      let behind : texts_from setups (one ∷ rest) ≡ texts_in setups one.line ++ texts_from step.0 rest =
      ap (λ (o : Option Setups). texts_in setups one.line ++ unwrap_or (option_map (λ (after : Setups). texts_from after rest) o) []) step.1 in
      let in_all : (x : ByteList) → Contains (texts_in setups one.line ++ texts_from step.0 rest) x → T x =
      λ x within. texts x (subst (λ (xs : List ByteList). Contains xs x) (sym behind) within) in
      lines_stand (one.line ∷ before) step.0 last rest fit.1 canonical.1
      (line_stands before setups step.0 one.line fit.0 canonical.0 all
      (λ x within. in_all x (Contains-append_left (texts_in setups one.line) (texts_from step.0 rest) x within)) step.1)
      (λ x within. in_all x (Contains-append_right (texts_in setups one.line) (texts_from step.0 rest) x within)) step.2

-- registries that hold nothing
get_none : (setups : Setups) → AllByRecursion (λ s. s ≡ no_setup) setups → (at : ℕ) → unwrap_or (slice_get setups at) no_setup ≡ no_setup
get_none [] all at = refl
get_none (s ∷ setups) all zero = all.0
get_none (s ∷ setups) all (suc at) = get_none setups all.1 at

pub none_stand : (T : ByteList → Type 0) → AllStand T [] no_setups
none_stand T = record {
  eight = refl;
  each = λ reg some.
      subst (SetupStands T [] reg) (sym (get_none no_setups (refl, (refl, (refl, (refl, (refl, (refl, (refl, (refl, tt)))))))) (reg - 1))) (record {
        calm = record { failing = refl; moves = refl };
        stands = record { of = nothing_is_of T; graphs = λ repo tag d is. absurd (no_tag repo tag d is) };
      });
}
