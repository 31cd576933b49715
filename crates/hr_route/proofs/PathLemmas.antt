-- Paths taken apart at their last slash.
use Rattle.std.proofs.Common.{◌≡◌, ◌≢◌, ℕ, ◌+◌, ◌-◌, ◌<◌, ◌≤◌, List, [], ◌∷◌, ◌++◌, length, get_or, take, drop, reverse, refl, sym, ap, subst, ◌∙◌, arith, length-take-le, suc, codes, Option, Some, None, MatchOption, Bor}
use Rattle.std.proofs.lemmas.List.{reverse-append, take-append-drop, append_cancel_left, append_cancel_right}
use Rattle.std.proofs.lemmas.List.Elements.{All-tail, All-head}
use Rattle.std.proofs.Math.Seq.{drop-cons, take-append_seam, drop-append-add}
use Rattle.hr_route.specs.declared.path.Kind.{Kind}
use Rattle.hr_route.specs.declared.path.Kind.TheVariants.{Tags, Manifests, Blobs, Uploads}
use Rattle.hr_route.specs.Path.{HasNoSlash, IsWay, SplitsAt, Way, front_of, kind_text, last_of, top, within}

pub split_at : (bytes : List ℕ) (at : ℕ) → 0 < at → at ≤ length bytes → get_or bytes (at - 1) 0 ≡ 47 → HasNoSlash (drop at bytes) → SplitsAt bytes (at - 1)
split_at bytes at some fits slash none =
    let next : suc (at - 1) ≡ at = omega arith in
    record {
      front = take (at - 1) bytes;
      last = drop at bytes;
      is = sym (take-append-drop (at - 1) bytes) ∙ ap (λ l. take (at - 1) bytes ++ l)
          (drop-cons bytes (at - 1) 0 (omega arith) ∙ ap (λ b. b ∷ drop (suc (at - 1)) bytes) slash ∙ ap (λ k. 47 ∷ drop k bytes) next);
      len = grind (arith, length-take-le);
      none = none;
    }

-- a text that is cut at its last slash
pub record IsCut (bytes : List ℕ) (at : ℕ) : Type 0 where
  pub is : bytes ≡ take at bytes ++ 47 ∷ drop (at + 1) bytes
  pub last : HasNoSlash (drop (at + 1) bytes)

pub parts : (bytes : List ℕ) (at : ℕ) → SplitsAt bytes at → IsCut bytes at
parts bytes at s =
    let front : take at bytes ≡ s.front = ap (λ k. take k bytes) (sym s.len) ∙ ap (λ l. take (length s.front) l) s.is ∙ take-append_seam s.front (47 ∷ s.last) in
    let last : drop (at + 1) bytes ≡ s.last = ap (λ k. drop (k + 1) bytes) (sym s.len) ∙ ap (λ l. drop (length s.front + 1) l) s.is ∙ drop-append-add s.front (47 ∷ s.last) 1 in
    record { is = s.is ∙ (λ i. sym front i ++ 47 ∷ sym last i); last = subst HasNoSlash (sym last) s.none }

slash_in : (front last : List ℕ) → HasNoSlash (front ++ 47 ∷ last) → ⊥
slash_in [] last none = All-head (λ b. b ≢ 47) 47 last none refl
slash_in (x ∷ front) last none = slash_in front last (All-tail (λ b. b ≢ 47) x (front ++ 47 ∷ last) none)

no_slash_in : (front last rest : List ℕ) → HasNoSlash rest → rest ≡ front ++ 47 ∷ last → ⊥
no_slash_in front last rest none is = slash_in front last (subst HasNoSlash is none)

-- two ways to take a text apart at a last slash are one
pub record AreSame (a b x y : List ℕ) : Type 0 where
  pub front : a ≡ b
  pub last : x ≡ y

pub same_parts : (a b x y : List ℕ) → HasNoSlash x → HasNoSlash y → a ++ 47 ∷ x ≡ b ++ 47 ∷ y → AreSame a b x y
same_parts [] [] x y nx ny e = record { front = refl; last = cc }
same_parts [] (c ∷ b) x y nx ny e = absurd (no_slash_in b y x nx (cc))
same_parts (c ∷ a) [] x y nx ny e = absurd (no_slash_in a x y ny (cc))
same_parts (c ∷ a) (d ∷ b) x y nx ny e =
    let first : c ≡ d = cc in
    let rest = same_parts a b x y nx ny (cc) in
    record { front = λ i. first i ∷ rest.front i; last = rest.last }

-- ---- kinds

-- the last byte but one of each kind's text
code : Kind → ℕ
code Tags = 103
code Manifests = 116
code Blobs = 98
code Uploads = 100

last_but_one : List ℕ → ℕ
last_but_one text = get_or (reverse text) 1 0

code_is : (repo : List ℕ) (kind : Kind) → last_but_one (repo ++ kind_text kind) ≡ code kind
unfolding last_but_one code
code_is repo Tags = ap (λ l. get_or l 1 0) (reverse-append repo (kind_text Tags))
code_is repo Manifests = ap (λ l. get_or l 1 0) (reverse-append repo (kind_text Manifests))
code_is repo Blobs = ap (λ l. get_or l 1 0) (reverse-append repo (kind_text Blobs))
code_is repo Uploads = ap (λ l. get_or l 1 0) (reverse-append repo (kind_text Uploads))

same_code : (one other : Kind) → code one ≡ code other → one ≡ other
unfolding code
same_code Tags Tags e = refl
same_code Tags Manifests e = absurd (omega (arith, e))
same_code Tags Blobs e = absurd (omega (arith, e))
same_code Tags Uploads e = absurd (omega (arith, e))
same_code Manifests Tags e = absurd (omega (arith, e))
same_code Manifests Manifests e = refl
same_code Manifests Blobs e = absurd (omega (arith, e))
same_code Manifests Uploads e = absurd (omega (arith, e))
same_code Blobs Tags e = absurd (omega (arith, e))
same_code Blobs Manifests e = absurd (omega (arith, e))
same_code Blobs Blobs e = refl
same_code Blobs Uploads e = absurd (omega (arith, e))
same_code Uploads Tags e = absurd (omega (arith, e))
same_code Uploads Manifests e = absurd (omega (arith, e))
same_code Uploads Blobs e = absurd (omega (arith, e))
same_code Uploads Uploads e = refl

same_kind : (repo other : List ℕ) (kind found : Kind) → repo ++ kind_text kind ≡ other ++ kind_text found → kind ≡ found
same_kind repo other kind found e =
    same_code kind found (sym (code_is repo kind) ∙ ap last_but_one e ∙ code_is other found)

-- none of the kinds is none at all
pub no_kind : (rest : List ℕ) → ((repo : List ℕ) → rest ≢ repo ++ kind_text Tags) → ((repo : List ℕ) → rest ≢ repo ++ kind_text Manifests)
    → ((repo : List ℕ) → rest ≢ repo ++ kind_text Blobs) → ((repo : List ℕ) → rest ≢ repo ++ kind_text Uploads)
    → (repo : List ℕ) (kind : Kind) → rest ≢ repo ++ kind_text kind
no_kind rest a b c d repo Tags = a repo
no_kind rest a b c d repo Manifests = b repo
no_kind rest a b c d repo Blobs = c repo
no_kind rest a b c d repo Uploads = d repo

-- ---- ways

pub within_found : (front rest : List ℕ) (found : Option (Bor (List ℕ) × Kind)) → front ≡ codes "/v2/" ++ rest
    → MatchOption found ((repo : List ℕ) (kind : Kind) → rest ≢ repo ++ kind_text kind) (λ f. rest ≡ f.0.now ++ kind_text f.1)
    → MatchOption found ((repo : List ℕ) (kind : Kind) → front ≢ codes "/v2/" ++ (repo ++ kind_text kind)) (λ f. front ≡ codes "/v2/" ++ (f.0.now ++ kind_text f.1))
within_found front rest None is m = λ repo kind e. m repo kind (append_cancel_left (codes "/v2/") rest (repo ++ kind_text kind) (sym is ∙ e))
within_found front rest (Some f) is m = is ∙ ap (λ l. codes "/v2/" ++ l) m

pub no_way_without_slash : (path : List ℕ) → HasNoSlash path → (way : Way) → IsWay path way → ⊥
no_way_without_slash path none way leads = no_slash_in (front_of way) (last_of way) path none leads.is

same_front : (path : List ℕ) (at : ℕ) (way : Way) → SplitsAt path at → IsWay path way → AreSame (take at path) (front_of way) (drop (at + 1) path) (last_of way)
same_front path at way split leads =
    let cut = parts path at split in
    same_parts (take at path) (front_of way) (drop (at + 1) path) (last_of way) cut.last leads.last (sym cut.is ∙ leads.is)

pub no_way : (path : List ℕ) (at : ℕ) → SplitsAt path at → take at path ≢ codes "/v2" → ((repo : List ℕ) (kind : Kind) → take at path ≢ codes "/v2/" ++ (repo ++ kind_text kind))
    → (way : Way) → IsWay path way → ⊥
no_way path at split above none (top last) leads = above (same_front path at (top last) split leads).front
no_way path at split above none (within repo kind last) leads = none repo kind (same_front path at (within repo kind last) split leads).front

pub way_found : (path : List ℕ) (at : ℕ) (way : Way) → SplitsAt path at → take at path ≡ front_of way → last_of way ≡ drop (at + 1) path → IsWay path way
way_found path at way split front last =
    let cut = parts path at split in
    record {
      is = cut.is ∙ (λ i. front i ++ 47 ∷ sym last i);
      last = subst HasNoSlash (sym last) cut.last;
    }

above_within : (repo : List ℕ) (kind : Kind) → codes "/v2" ≡ codes "/v2/" ++ (repo ++ kind_text kind) → ⊥
above_within repo kind e = cc

same_within : (repo other last end : List ℕ) (kind found : Kind) → codes "/v2/" ++ (repo ++ kind_text kind) ≡ codes "/v2/" ++ (other ++ kind_text found) → last ≡ end
    → within repo kind last ≡ within other found end
same_within repo other last end kind found e lasts =
    let rest = append_cancel_left (codes "/v2/") (repo ++ kind_text kind) (other ++ kind_text found) e in
    let kinds = same_kind repo other kind found rest in
    let repos = append_cancel_right repo other (kind_text found) (ap (λ k. repo ++ kind_text k) (sym kinds) ∙ rest) in
    λ i. within (repos i) (kinds i) (lasts i)

same_ways : (one other : Way) → AreSame (front_of one) (front_of other) (last_of one) (last_of other) → one ≡ other
same_ways (top last) (top end) same = ap top same.last
same_ways (top last) (within repo kind end) same = absurd (above_within repo kind same.front)
same_ways (within repo kind last) (top end) same = absurd (above_within repo kind (sym same.front))
same_ways (within repo kind last) (within other found end) same = same_within repo other last end kind found same.front same.last

pub same_way : (path : List ℕ) (one other : Way) → IsWay path one → IsWay path other → one ≡ other
same_way path one other leads goes =
    same_ways one other (same_parts (front_of one) (front_of other) (last_of one) (last_of other) leads.last goes.last (sym leads.is ∙ goes.is))
