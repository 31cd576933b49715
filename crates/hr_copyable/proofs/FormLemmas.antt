-- Manifests in their canonical texts: the bytes tell the media type.
use Rattle.std.proofs.Common.{◌≡◌, ◌==◌, true, false, ℕ, List, get_or, ap, sym, ◌∙◌}
use Rattle.hr_base.specs.Bytes.{ByteList}
use Rattle.hr_event.specs.declared.reference.Fetched.{Fetched}
use Rattle.hr_manifest.specs.Canonical.{image_media, image_text, index_media, index_text}
use Rattle.hr_manifest.specs.declared.child.Child.{Child}
use Rattle.hr_adapter.specs.Put.{as_manifest}
use Rattle.hr_opening.specs.Stored.{config_text}

-- a manifest as canonical lines store it
pub data IsForm (m : Fetched) : Type 0 where
  image : (layers : List ByteList) → m ≡ as_manifest image_media (image_text config_text layers) → IsForm m
  index : (kids : List Child) → m ≡ as_manifest index_media (index_text kids) → IsForm m

-- the text of an image is never that of an index
apart : (layers : List ByteList) (kids : List Child) → image_text config_text layers ≡ index_text kids → ⊥
apart layers kids same =
    let e : true ≡ false = ap (λ (t : List ℕ). get_or t 58 0 == 109) same in
    cc

bytes_along : (m n : Fetched) → m ≡ n → m.bytes ≡ n.bytes
bytes_along m n e = ap (λ (f : Fetched). f.bytes) e

-- of two such manifests with the same bytes the media types are the same too
pub forms_agree : (m n : Fetched) → IsForm m → IsForm n → m.bytes ≡ n.bytes → m ≡ n
forms_agree m n (IsForm.image layers is) (IsForm.image others it) same =
    is ∙ ap (as_manifest image_media) (sym (bytes_along m (as_manifest image_media (image_text config_text layers)) is) ∙ same ∙ bytes_along n (as_manifest image_media (image_text config_text others)) it) ∙ sym it
forms_agree m n (IsForm.image layers is) (IsForm.index kids it) same =
    absurd (apart layers kids (sym (bytes_along m (as_manifest image_media (image_text config_text layers)) is) ∙ same ∙ bytes_along n (as_manifest index_media (index_text kids)) it))
forms_agree m n (IsForm.index kids is) (IsForm.image layers it) same =
    absurd (apart layers kids (sym (bytes_along n (as_manifest image_media (image_text config_text layers)) it) ∙ sym same ∙ bytes_along m (as_manifest index_media (index_text kids)) is))
forms_agree m n (IsForm.index kids is) (IsForm.index others it) same =
    is ∙ ap (as_manifest index_media) (sym (bytes_along m (as_manifest index_media (index_text kids)) is) ∙ same ∙ bytes_along n (as_manifest index_media (index_text others)) it) ∙ sym it
