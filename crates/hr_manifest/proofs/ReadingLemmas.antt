-- What stands behind a manifest that is read.
use Rattle.std.proofs.Common.{◌≡◌, ◌≤◌, ℕ, suc, ◌+◌, List, [], ◌∷◌, length, map, codes, Bool, true, false, not, nat_le, Option, Some, None, is_some, option_and_then, Result, Ok, Err, inl, inr, ◌⊎◌, refl, sym, ap, ◌∙◌, arith, rules, tests}
use Rattle.std.specs.Option.{ok_or}
use Rattle.serde_json.specs.Data.{Data}
use Rattle.serde_json.specs.Find.{get}
use Rattle.hr_json.specs.Doc.{document_of}
use Rattle.hr_manifest.specs.declared.child.Child.{Child}
use Rattle.hr_manifest.specs.declared.form.Form.{Form}
use Rattle.hr_manifest.specs.declared.form.Form.TheVariants.{Image, Index}
use Rattle.hr_manifest.specs.declared.descriptor.Role.TheVariants as role
use Rattle.hr_base.specs.declared.limit.TheConstants.{MANIFEST_LIMIT}
use Rattle.hr_manifest.specs.declared.manifest.TheConstants.{CHILD_LIMIT}
use Rattle.hr_manifest.specs.declared.refusal.ManifestKey.TheVariants as key
use Rattle.hr_manifest.specs.declared.refusal.Unreadable.{Unreadable}
use Rattle.hr_manifest.specs.declared.refusal.Unreadable.TheVariants.{Field, Media, NotJson, TooLong, TooMany}
use Rattle.hr_manifest.specs.Descriptor.{child_of, has, items_at, object_at, object_in}
use Rattle.hr_manifest.specs.Reading.{form_of, listed, reading_of, says_media, says_two, within}
use Rattle.hr_manifest.specs.Step.{◌>>=◌, ◌>>◌, check, each, field}

-- ---- tests that passed

passed : {A B : Type 0} (test : Result A Unreadable) (next : Result B Unreadable) (x : B) → test >> next ≡ Ok x → next ≡ Ok x
passed (Ok t) next x e = e
passed (Err why) next x e = absurd cc

record Given {A B : Type 0} (found : Result A Unreadable) (next : A → Result B Unreadable) (x : B) : Type 0 where
  value : A
  is : found ≡ Ok value
  then_ : next value ≡ Ok x

given : {A B : Type 0} (found : Result A Unreadable) (next : A → Result B Unreadable) (x : B) → found >>= next ≡ Ok x → Given found next x
given (Ok value) next x e = record { value = value; is = refl; then_ = e }
given (Err why) next x e = absurd cc

found : {A : Type 0} (o : Option A) (why : Unreadable) (x : A) → ok_or o why ≡ Ok x → o ≡ Some x
found (Some y) why x e = cc
found None why x e = absurd cc

held : {B : Type 0} (b : Bool) (why : Unreadable) (next : Result B Unreadable) (x : B) → check b why >> next ≡ Ok x → b ≡ true
held true why next x e = refl
held false why next x e = absurd cc

-- ---- what was read

-- the value that was read, its form and its children
pub record Listed (media bytes : List ℕ) (children : List Child) : Type 0 where
  pub form : Form
  pub value : Data
  pub form-is : form_of media ≡ Some form
  pub value-is : option_and_then object_in (document_of bytes) ≡ Some value
  pub listed-is : listed form value ≡ Ok children

pub reads-listed : (media bytes : List ℕ) (children : List Child) → reading_of media bytes ≡ Ok children → Listed media bytes children
reads-listed media bytes children e =
    let short = passed (check (nat_le (length bytes) MANIFEST_LIMIT) (TooLong (length bytes))) _ children e in
    let form = given (ok_or (form_of media) Media) _ children short in
    let value = given (ok_or (option_and_then object_in (document_of bytes)) NotJson) _ children form.then_ in
    let two = passed (check (says_two value.value) (Field key.SchemaVersion)) _ children value.then_ in
    let named = passed (check (says_media media value.value) (Field key.MediaType)) _ children two in
    record { form = form.value; value = value.value; form-is = found _ _ _ form.is; value-is = found _ _ _ value.is; listed-is = named }

-- an image has a config, and an index has none
config-both : (o : Option Data) → is_some o ≡ false → (config : Data) → option_and_then object_in o ≡ Some config → ⊥
config-both (Some d) none config e = cc
config-both None none config e = cc

not-true : (b : Bool) → not b ≡ true → b ≡ false
not-true true e = cc
not-true false e = refl

image-or-index : (value : Data) (children more : List Child) → listed Image value ≡ Ok children → listed Index value ≡ Ok more → ⊥
image-or-index value children more image index =
    let without = passed (check (not (has (codes "manifests") value)) (Field key.Manifests)) _ children image in
    let config = given (field key.Config (object_at (codes "config") value)) _ children without in
    let none = held (not (has (codes "config") value)) (Field key.Config) _ more index in
    config-both (get (codes "config") value) (not-true _ none) config.value (found _ _ _ config.is)

pub listed-once : (f g : Form) (value : Data) (children more : List Child) → listed f value ≡ Ok children → listed g value ≡ Ok more → children ≡ more
listed-once Image Image value children more a b = cc
listed-once Image Index value children more a b = absurd (image-or-index value children more a b)
listed-once Index Image value children more a b = absurd (image-or-index value more children b a)
listed-once Index Index value children more a b = cc

pub reads-once : (media other bytes : List ℕ) (children more : List Child) → reading_of media bytes ≡ Ok children → reading_of other bytes ≡ Ok more → children ≡ more
reads-once media other bytes children more a b =
    let x = reads-listed media bytes children a in
    let y = reads-listed other bytes more b in
    let same : y.value ≡ x.value = (let p = x.value-is in let q = y.value-is in cc) in
    let second : listed y.form x.value ≡ Ok more = ap (listed y.form) (sym same) ∙ y.listed-is in
    listed-once x.form y.form x.value children more x.listed-is second

-- ---- limits

below : (m n : ℕ) → nat_le m n ≡ true → m ≤ n
below m n e = search (rules, tests)

pub reads-short : (media bytes : List ℕ) (children : List Child) → reading_of media bytes ≡ Ok children → length bytes ≤ MANIFEST_LIMIT
reads-short media bytes children e =
    let short = held (nat_le (length bytes) MANIFEST_LIMIT) (TooLong (length bytes)) _ children e in
    below _ _ short

each-length : {A B : Type 0} (f : A → Result B Unreadable) (ds : List A) (xs : List B) → each (map f ds) ≡ Ok xs → length xs ≡ length ds
each-length f [] xs e = let is : [] ≡ xs = cc in ap length (sym is)
each-length f (d ∷ ds) xs e =
    let first = given (f d) _ xs e in
    let rest = given (each (map f ds)) _ xs first.then_ in
    let is : first.value ∷ rest.value ≡ xs = (let h = rest.then_ in cc) in
    ap length (sym is) ∙ ap (λ n. suc n) (each-length f ds rest.value rest.is)

abbrev of-image : Data → List Data → Result (List Child) Unreadable
of-image config layers = child_of role.Config config >>= (λ first. each (map (child_of role.Layer) layers) >>= (λ rest. Ok (first ∷ rest)))

image-length : (config : Data) (layers : List Data) (children : List Child) → of-image config layers ≡ Ok children → length children ≡ length layers + 1
image-length config layers children e =
    let first = given (child_of role.Config config) _ children e in
    let rest = given (each (map (child_of role.Layer) layers)) _ children first.then_ in
    let is : first.value ∷ rest.value ≡ children = (let h = rest.then_ in cc) in
    let long : suc (length rest.value) ≡ length children = ap length is in
    omega (arith, long, each-length (child_of role.Layer) layers rest.value rest.is)

pub listed-few : (form : Form) (value : Data) (children : List Child) → listed form value ≡ Ok children → length children ≤ CHILD_LIMIT
listed-few Image value children e =
    let without = passed (check (not (has (codes "manifests") value)) (Field key.Manifests)) _ children e in
    let config = given (field key.Config (object_at (codes "config") value)) _ children without in
    let layers = given (field key.Layers (items_at (codes "layers") value)) _ children config.then_ in
    let few = held (nat_le (length layers.value + 1) CHILD_LIMIT) (TooMany (length layers.value + 1)) _ children layers.then_ in
    let counted = passed (within (length layers.value + 1)) _ children layers.then_ in
    omega (arith, image-length config.value layers.value children counted, below _ _ few)
listed-few Index value children e =
    let without = passed (check (not (has (codes "config") value)) (Field key.Config)) _ children e in
    let either = passed (check (not (has (codes "layers") value)) (Field key.Layers)) _ children without in
    let manifests = given (field key.Manifests (items_at (codes "manifests") value)) _ children either in
    let few = held (nat_le (length manifests.value) CHILD_LIMIT) (TooMany (length manifests.value)) _ children manifests.then_ in
    let counted = passed (within (length manifests.value)) _ children manifests.then_ in
    omega (arith, each-length (child_of role.Manifest) manifests.value children counted, below _ _ few)

pub reads-few : (media bytes : List ℕ) (children : List Child) → reading_of media bytes ≡ Ok children → length children ≤ CHILD_LIMIT
reads-few media bytes children e = let x = reads-listed media bytes children e in listed-few x.form x.value children x.listed-is

-- ---- read or refused

pub either : {A : Type 0} (r : Result A Unreadable) → ((x : A) × (r ≡ Ok x)) ⊎ ((why : Unreadable) × (r ≡ Err why))
either (Ok x) = inl (x, refl)
either (Err why) = inr (why, refl)
