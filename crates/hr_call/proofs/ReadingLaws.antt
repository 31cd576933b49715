-- Laws: names, tags, digests and references are read from their texts, and have no byte that stands
-- for another in a target.
use Rattle.std.proofs.Common.{◌≡◌, ◌≤◌, ℕ, List, length, Some, None, ap, ◌∙◌, refl, cond}
use Rattle.std.specs.Prelude.{nat_le, ◌&&◌, option_map}
use Rattle.std.proofs.lemmas.Bool.{le-leb}
use Rattle.hr_digest.specs.Digest.{text_of_digest}
use Rattle.hr_digest.specs.Reading.{IsWhole}
use Rattle.hr_digest.specs.declared.digest.Digest.{Digest as Hash}
use Rattle.hr_digest.specs.declared.digest.Digest.TheVariants.{Sha256}
use Rattle.hr_event.specs.declared.reference.Reference.{Reference}
use Rattle.hr_event.specs.declared.reference.Reference.TheVariants.{Tag, Digest}
use Rattle.hr_name.specs.Name.{IsName}
use Rattle.hr_name.specs.Tag.{IsTag}
use Rattle.hr_call.specs.Reading.{IsReference, digest_in, name_in, or_else, reference_in, tag_in, text_of_reference}
use Rattle.hr_call.proofs.NameLemmas.{name_passes}
use Rattle.hr_call.proofs.ReadingLemmas as lemma

-- a name within its limit is read as itself
pub name_back : (text : List ℕ) → IsName text → length text ≤ 255 → name_in text ≡ Some text
name_back text is short =
    ap (λ t. cond (t && nat_le (length text) 255) (Some text) None) (name_passes text is)
    ∙ ap (λ t. cond t (Some text) None) (le-leb (length text) 255 short)

-- a tag is read as itself
pub tag_back : (text : List ℕ) → IsTag text → tag_in text ≡ Some text
tag_back text is = lemma.tag_back text is

-- a digest is read from its text
pub digest_back : (digest : Hash) → IsWhole digest → digest_in (text_of_digest digest) ≡ Some digest
digest_back digest whole = lemma.digest_whole (text_of_digest digest) digest whole refl

-- the text of a digest is no tag
digest_no_tag : (digest : Hash) → tag_in (text_of_digest digest) ≡ None
digest_no_tag (Sha256 hash) = refl

-- a reference is read from its text
pub reference_back : (reference : Reference) → IsReference reference → reference_in (text_of_reference reference) ≡ Some reference
reference_back (Tag tag) is =
    ap (λ t. or_else (option_map Tag t) (option_map Digest (digest_in tag))) (tag_back tag is)
reference_back (Digest digest) is =
    ap (λ t. or_else (option_map Tag t) (option_map Digest (digest_in (text_of_digest digest)))) (digest_no_tag digest)
    ∙ ap (option_map Digest) (digest_back digest is)
