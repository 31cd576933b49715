-- The texts by which calls name repositories, tags and digests (OCI Distribution 1.1, "Pulling
-- manifests").
use Rattle.std.specs.Prelude.{◌&&◌, nat_le, Bool, false, [], ◌∷◌, length, Option, Some, None, option_map, if◌then◌else◌}
use Rattle.std.specs.List.{list_all}
use Rattle.hr_base.specs.Bytes.{Text}
use Rattle.hr_digest.specs.Digest.{text_of_digest}
use Rattle.hr_digest.specs.Reading.{IsWhole}
use Rattle.hr_digest.specs.declared.digest.Digest.{Digest as Hash}
use Rattle.hr_event.specs.declared.reference.Reference.{Reference}
use Rattle.hr_event.specs.declared.reference.Reference.TheVariants.{Tag, Digest}
use Rattle.hr_manifest.specs.Descriptor as manifest
use Rattle.hr_name.specs.Alphabet.{begins_tag, goes_on_tag}
use Rattle.hr_name.specs.Name.{RepoName}
use Rattle.hr_name.specs.Place.{is_name}
use Rattle.hr_name.specs.Tag.{IsTag, TagName}
use Rattle.hr_name.specs.declared.name.TheConstants.{NAME_LIMIT}
use Rattle.hr_name.specs.declared.tag.TheConstants.{TAG_LIMIT}

-- the name of a repository that a text is, within its limit
abbrev pub name_in : Text → Option RepoName
name_in text = if is_name text && nat_le (length text) NAME_LIMIT then Some text else None

-- whether a text is a tag: the grammar as a test that computes
abbrev pub is_tag : Text → Bool
is_tag [] = false
is_tag (first ∷ rest) =
    begins_tag first && (list_all goes_on_tag rest && nat_le (length (first ∷ rest)) TAG_LIMIT)

-- the tag that a text is
abbrev pub tag_in : Text → Option TagName
tag_in text = if is_tag text then Some text else None

-- the digest of which this is the text, under an algorithm that is known here
abbrev pub digest_in : Text → Option Hash
digest_in text = manifest.digest_in text

-- the first answer, or else the second
abbrev pub or_else : {A : Type 0} → Option A → Option A → Option A
or_else (Some one) other = Some one
or_else None other = other

-- the tag or the digest of which this is the text
abbrev pub reference_in : Text → Option Reference
reference_in text = or_else (option_map Tag (tag_in text)) (option_map Digest (digest_in text))

-- the text of a tag or of a digest
abbrev pub text_of_reference : Reference → Text
text_of_reference (Tag tag) = tag
text_of_reference (Digest digest) = text_of_digest digest

-- a reference: its tag is one of the grammar, or its digest has as many bytes as its algorithm gives
abbrev pub IsReference : Reference → Type 0
IsReference (Tag tag) = IsTag tag
IsReference (Digest digest) = IsWhole digest
