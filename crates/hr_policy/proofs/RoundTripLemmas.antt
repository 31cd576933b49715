-- The text of a configuration reads back.
use Rattle.std.proofs.Common.{◌≡◌, ◌≤◌, ℕ, true, nat_le, List, length, Some, option_and_then, Result, Ok, Err, arith, tests}
use Rattle.std.specs.Str.{IsUtf8}
use Rattle.std.proofs.lemmas.Str.{is_utf8-from_IsUtf8}
use Rattle.serde_json.specs.Data.{Data}
use Rattle.serde_json.specs.Read.{read}
use Rattle.hr_policy.specs.declared.config.Config.{Config}
use Rattle.hr_policy.specs.Reading.{config_in, config_of, IsConfig}
use Rattle.hr_setting.specs.Member.{object_in}
use Rattle.hr_policy.specs.Step.{◌>>◌, check}
use Rattle.hr_policy.specs.declared.refusal.ConfigRefused.{ConfigRefused}
use Rattle.hr_policy.specs.declared.refusal.ConfigRefused.TheVariants as why
use Rattle.hr_policy.specs.declared.reading.TheConstants.{CONFIG_LIMIT}
use Rattle.hr_json.specs.Doc.{document_of}
use Rattle.hr_policy.proofs.GivenLemmas.{found}
use Rattle.hr_policy.specs.Written.{config_value}
use Rattle.hr_policy.proofs.ConfigBackLemmas.{config-back}

pub text-reads-back : (text : List ℕ) (d : Data) (c : Config) → IsUtf8 text → read text ≡ Some (config_value c) → config_in d ≡ Ok c → length text ≤ CONFIG_LIMIT → config_of text ≡ Ok c
text-reads-back text d c u is said short =
    let test : nat_le (length text) CONFIG_LIMIT ≡ true = search (arith, tests) in
    rw test (rw (is_utf8-from_IsUtf8 text u) (rw is (config-back d c said)))

-- the value that a configuration's bytes are
pub record InValue (c : Config) : Type 0 where
  pub value : Data
  pub said : config_in value ≡ Ok c

passed : {A B : Type 0} (test : Result A ConfigRefused) (next : Result B ConfigRefused) (x : B) → test >> next ≡ Ok x → next ≡ Ok x
passed (Ok t) next x e = e
passed (Err why) next x e = absurd cc

pub in-value : (c : Config) → IsConfig c → InValue c
in-value c i =
    let long = passed (check (nat_le (length i.bytes) CONFIG_LIMIT) (why.TooLong (length i.bytes))) _ c i.said in
    let found_ = found (option_and_then object_in (document_of i.bytes)) _ _ c long in
    record { value = found_.value; said = found_.then_ }
