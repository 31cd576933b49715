-- A word writes one number at most.
use Rattle.std.proofs.Common.{◌≡◌, ℕ, sym, ◌∙◌}
use Rattle.std.proofs.lemmas.Fmt.{decimal_injective}
use Rattle.hr_base.specs.Bytes.{Text}
use Rattle.hr_text.specs.Number.{IsNumber}

pub one_number : (word : Text) (m n : ℕ) → IsNumber word m → IsNumber word n → m ≡ n
one_number word m n one other = decimal_injective m n one.small other.small (sym one.written ∙ other.written)
