-- Which children can be written so that they read back (RFC 8259, section 7, "Strings").
use Rattle.std.specs.Prelude.{◌≡◌, ◌^◌, ◌<◌}
use Rattle.std.specs.Str.{IsUtf8}
use Rattle.hr_digest.specs.Reading.{IsWhole}
use Rattle.hr_text.specs.Escaping.{IsUnescaped}
use Rattle.hr_manifest.specs.declared.child.Child.{Child}
use Rattle.hr_manifest.specs.declared.child.ChildKind.TheVariants.{Manifest}

-- A child as its type gives it: a digest as long as its algorithm gives, and a size of 64 bits.
pub record IsFit (child : Child) : Type 0 where
  pub whole : IsWhole child.digest
  pub small : child.size < 2 ^ 64

-- A child whose descriptor is a text: its media type is UTF-8, and stands in a string as it is.
pub record IsWritable (child : Child) : Type 0 where
  pub fit : IsFit child
  pub text : IsUtf8 child.media
  pub plain : IsUnescaped child.media

-- A child that an index lists: a manifest of less than 2^63 bytes, under a media type in UTF-8.
pub record IsListed (child : Child) : Type 0 where
  pub kind : child.kind ≡ Manifest
  pub size : child.size < 2 ^ 63
  pub text : IsUtf8 child.media
