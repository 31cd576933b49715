-- The texts that the lines of a script store, and when no digest stands for two of them. (Our own.)
use Rattle.std.specs.Prelude.{◌≡◌, List, [], ◌∷◌, ◌++◌, Contains, option_map, unwrap_or}
use Rattle.hr_base.specs.Bytes.{ByteList}
use Rattle.hr_digest.specs.Digest.{digest_of}
use Rattle.hr_manifest.specs.Canonical.{image_text, index_text}
use Rattle.hr_adapter.specs.Content.{Content}
use Rattle.hr_script.specs.declared.line.Line.{Line}
use Rattle.hr_script.specs.declared.line.Line.TheVariants as line
use Rattle.hr_script.specs.declared.reading.Numbered.{Numbered}
use Rattle.hr_opening.specs.Opening.{after_line, registry_named}
use Rattle.hr_opening.specs.Setup.{Setups, no_setups, setup_in}
use Rattle.hr_opening.specs.Stored.{children_of, config_text}

-- the texts that a line stores in a registry of this content: blobs, and manifests
abbrev pub texts_of : Content → Line → List ByteList
texts_of c (line.Image reg repo tag layers) = image_text config_text layers ∷ config_text ∷ layers
texts_of c (line.Index reg repo tag children) =
    unwrap_or (option_map (λ kids. index_text kids ∷ []) (children_of c repo children)) []
texts_of c (line.Orphan reg repo layers) = image_text config_text layers ∷ []
texts_of c (line.Manifest reg repo tag media text) = text ∷ []
texts_of c (line.Break reg repo honest stored) = stored ∷ []
texts_of c _ = []

-- the texts that a line stores, by the registries as the lines before it leave them
abbrev pub texts_in : Setups → Line → List ByteList
texts_in setups l = unwrap_or
    (option_map (λ reg. texts_of (setup_in setups reg.0).content l) (registry_named l)) []

-- the texts that lines store one after the other, from these registries on
abbrev pub texts_from : Setups → List Numbered → List ByteList
texts_from setups [] = []
texts_from setups (numbered ∷ rest) = texts_in setups numbered.line ++ unwrap_or
    (option_map (λ after. texts_from after rest) (after_line setups numbered.line)) []

-- no digest stands for two of the texts that these lines store
abbrev pub StoreOneText : List Numbered → Type 0
StoreOneText lines = (a b : ByteList) → Contains (texts_from no_setups lines) a
    → Contains (texts_from no_setups lines) b → digest_of a ≡ digest_of b → a ≡ b
