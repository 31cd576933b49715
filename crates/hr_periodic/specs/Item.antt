-- An item of a field of a schedule, and the numbers that it stands for. (Our own, after the fields
-- of cron.)
use Rattle.std.specs.Prelude.{ℕ, ◌+◌, ◌-◌, ◌*◌, ◌%◌, nat_le, ◌==◌, Bool, false, ◌&&◌, if◌then◌else◌, [], ◌∷◌, Option, Some, None, unwrap_or, option_map}
use Rattle.std.specs.Option.{option_and_then}
use Rattle.hr_base.specs.Bytes.{Text}
use Rattle.hr_text.specs.Cutting.{cut_at}
use Rattle.hr_periodic.specs.declared.reading.Limits.{Limits}
use Rattle.hr_periodic.specs.declared.reading.Stretch.{Stretch}

-- The byte `-`, between the ends of a range.
abbrev pub dash : ℕ
dash = 45

-- The byte `/`, before a step.
abbrev pub slash : ℕ
slash = 47

-- The number that a decimal digit writes.
abbrev pub digit_of : ℕ → Option ℕ
digit_of byte = if nat_le 48 byte && nat_le byte 57 then Some (byte - 48) else None

-- The number that one or two decimal digits write.
abbrev pub number_of : Text → Option ℕ
number_of (a ∷ []) = digit_of a
number_of (a ∷ b ∷ []) =
    option_and_then (λ tens. option_map (λ ones. 10 * tens + ones) (digit_of b)) (digit_of a)
number_of _ = None

-- The number that one or two digits write, within the limits of a field.
abbrev pub number_in : Limits → Text → Option ℕ
number_in limits text =
    option_and_then
    (λ n. if nat_le limits.low n && nat_le n limits.high then Some n else None) (number_of text)

-- The ends of `A`, or of `A-B` where A is at most B, of a text that is cut at `-`.
abbrev pub ends_in : Limits → Text × Option Text → Option (ℕ × Option ℕ)
ends_in limits (a, None) = option_map (λ from. (from, None)) (number_in limits a)
ends_in limits (a, Some b) =
    option_and_then
    (λ from. option_and_then
    (λ to. if nat_le from to then Some (from, Some to) else None) (number_in limits b))
    (number_in limits a)

-- The ends of `A`, or of `A-B` where A is at most B.
abbrev pub ends_of : Limits → Text → Option (ℕ × Option ℕ)
ends_of limits text = ends_in limits (cut_at dash text)

-- Whether a text is `*`.
abbrev pub is_star : Text → Bool
is_star (x ∷ []) = x == 42
is_star _ = false

-- The numbers from one to another by steps.
abbrev pub stretch : ℕ → ℕ → ℕ → Stretch
stretch from to step = record { from = from; to = to; step = step }

-- All numbers of a field.
abbrev pub whole : Limits → Stretch
whole limits = stretch limits.low limits.high 1

-- The numbers of `*/N`, `A-B/N`, or `A/N` from A to the field's greatest, by what stands before the
-- `/` and by the step.
abbrev pub stepped : Limits → Text → ℕ → Option Stretch
stepped limits head step =
    if is_star head then Some (stretch limits.low limits.high step)
    else option_map (λ ends. stretch ends.0 (unwrap_or ends.1 limits.high) step) (ends_of limits head)

-- The numbers of an item, `A` or `A-B` or one with a step of at least 1, of a text that is cut at `/`.
abbrev pub item_in : Limits → Text × Option Text → Option Stretch
item_in limits (head, None) =
    option_map (λ ends. stretch ends.0 (unwrap_or ends.1 ends.0) 1) (ends_of limits head)
item_in limits (head, Some n) =
    option_and_then (λ step. if step == 0 then None else stepped limits head step) (number_of n)

-- The numbers of an item of a list: `A` or `A-B`, or one with a step of at least 1.
abbrev pub item_of : Limits → Text → Option Stretch
item_of limits text = item_in limits (cut_at slash text)

-- Whether a number is one of a stretch.
abbrev pub in_stretch : Stretch → ℕ → Bool
in_stretch s number =
    nat_le s.from number && nat_le number s.to && ((number - s.from) % s.step == 0)
