-- Lemmas on the size lines of httparse's grammar: their bytes lead to the data.
use Rattle.std.proofs.Common.{◌≡◌, ℕ, ◌+◌, ◌-◌, ◌*◌, ◌<◌, ◌≤◌, zero, suc, Bool, true, false, [], ◌∷◌, ◌++◌, length, refl, sym, ap, subst, ◌∙◌, arith, length-append, Option, Some, None}
use Rattle.std.specs.Prelude.{if◌then◌else◌, nat_lt, ◌==◌}
use Rattle.std.specs.Char.{is_ascii_hexdigit, digit_value}
use Rattle.std.specs.Str.Parse.{digits_value_after}
use Rattle.std.proofs.lemmas.Bool.Decides.{nat_tests}
use Rattle.std.proofs.lemmas.List.Elements.{All-head, All-tail}
use Rattle.httparse.specs.Grammar.{AllPass, is_ows, is_extension_byte, print_extension, ChunkLine, print_chunk_line, IsChunkLine, IsExtension, chunk_size}
use Rattle.hr_base.specs.Bytes.{ByteList}
use Rattle.hr_body.specs.declared.stage.Part.{Part}
use Rattle.hr_body.specs.declared.stage.Part.TheVariants.{Size, Blank, Extension, SizeFeed}
use Rattle.hr_body.specs.declared.stage.Coding.TheVariants.{Line}
use Rattle.hr_body.specs.declared.stage.Stage.{Stage}
use Rattle.hr_body.specs.declared.stage.Stage.TheVariants.{Between}
use Rattle.hr_body.specs.Leading.{Leads}
use Rattle.hr_body.specs.Stage.{step_of, part_step, size_step, chunk_start, in_line}
use Rattle.hr_body.proofs.LeadingLemmas.{leads_more, leads_none}

abbrev pub at : ℕ → Part → Stage
at room m = Between (Line room m)

-- a byte of a line, where the line has room
pub line_leads : (room : ℕ) (m : Part) (b : ℕ) (q : Stage) → 0 < room → part_step (room - 1) m b ≡ Some q → Leads (at room m) (b ∷ []) [] q
unfolding step_of
line_leads room m b q some is =
    let t : (room == 0) ≡ false = grind (arith, nat_tests) in
    record { ends = ap (λ t. if t then None else part_step (room - 1) m b) t ∙ is; gives = refl }

pub line_on : (room left : ℕ) (m n : Part) (b : ℕ) → room ≡ left + 1 → part_step left m b ≡ in_line left n → Leads (at room m) (b ∷ []) [] (at left n)
line_on room left m n b e is =
    let some : 0 < room = omega (arith, e) in
    let k : room - 1 ≡ left = omega (arith, e) in
    line_leads room m b (at left n) some (subst (λ k. part_step k m b ≡ in_line left n) (sym k) is)

-- bytes at which the part stays
pub stay : (test : ℕ → Bool) (m : Part) (stays : (room b : ℕ) → test b ≡ true → part_step room m b ≡ in_line room m) (bs : ByteList) (room left : ℕ)
    → AllPass test bs → room ≡ length bs + left → Leads (at room m) bs [] (at left m)
stay test m stays [] room left all e = let same : room ≡ left = omega (arith, e) in subst (λ r. Leads (at room m) [] [] (at r m)) same (leads_none (at room m))
stay test m stays (b ∷ bs) room left all e =
    let mid : room ≡ (length bs + left) + 1 = omega (arith, e) in
    leads_more (at room m) (at (length bs + left) m) (at left m) (b ∷ []) bs [] []
    (line_on room (length bs + left) m m b mid (stays (length bs + left) b (All-head (λ v. test v ≡ true) b bs all)))
    (stay test m stays bs (length bs + left) left (All-tail (λ v. test v ≡ true) b bs all) refl)

pub pow16 : ByteList → ℕ
pow16 [] = 1
pow16 (d ∷ ds) = 16 * pow16 ds

pub pow16n : ℕ → ℕ
pow16n zero = 1
pow16n (suc n) = 16 * pow16n n

pow16_some : (ds : ByteList) → 1 ≤ pow16 ds
unfolding pow16
pow16_some [] = omega arith
pow16_some (d ∷ ds) = let on = pow16_some ds in omega (arith, on)

pub pow16_most : (n : ℕ) (ds : ByteList) → length ds ≤ n → pow16 ds ≤ pow16n n
unfolding pow16 pow16n
pow16_most zero [] le = omega arith
pow16_most zero (d ∷ ds) le = absurd (omega (arith, le))
pow16_most (suc n) [] le = let on = pow16_most n [] (omega arith) in omega (arith, on)
pow16_most (suc n) (d ∷ ds) le = let on = pow16_most n ds (omega (arith, le)) in omega (arith, on)

hex_small : (d : ℕ) → is_ascii_hexdigit d ≡ true → digit_value d < 16
hex_small d e = grind (arith, nat_tests)

-- one digit
pub digit_leads : (room left count value d : ℕ) → room ≡ left + 1 → is_ascii_hexdigit d ≡ true → count < 16 → value < 1152921504606846976
    → Leads (at room (Size count value)) (d ∷ []) [] (at left (Size (count + 1) (value * 16 + digit_value d)))
digit_leads room left count value d e hex few small =
    let f : nat_lt count 16 ≡ true = grind (arith, nat_tests) in
    let s : nat_lt value 1152921504606846976 ≡ true = grind (arith, nat_tests) in
    line_on room left (Size count value) (Size (count + 1) (value * 16 + digit_value d)) d e (rw (hex, f, s) refl)

fits_digit : (value n d : ℕ) → (value + 1) * (16 * n) ≤ 18446744073709551616 → 1 ≤ n → value < 1152921504606846976
fits_digit value n d le some = grind arith

fits_next : (value n d : ℕ) → (value + 1) * (16 * n) ≤ 18446744073709551616 → d < 16 → ((value * 16 + d) + 1) * n ≤ 18446744073709551616
fits_next value n d le small = grind arith

pub digits_go : (ds : ByteList) (room left count value : ℕ) → AllPass is_ascii_hexdigit ds → room ≡ length ds + left → count + length ds ≤ 16
    → (value + 1) * pow16 ds ≤ 18446744073709551616
    → Leads (at room (Size count value)) ds [] (at left (Size (count + length ds) (digits_value_after 16 value ds)))
unfolding pow16
digits_go [] room left count value all e few small =
    let same : room ≡ left = omega (arith, e) in
    let c : count ≡ count + 0 = omega arith in
    subst (λ k. Leads (at room (Size count value)) [] [] (at left (Size k value))) c (subst (λ r. Leads (at room (Size count value)) [] [] (at r (Size count value))) same (leads_none (at room (Size count value))))
digits_go (d ∷ ds) room left count value all e few small =
    let hex = All-head (λ v. is_ascii_hexdigit v ≡ true) d ds all in
    let mid : room ≡ (length ds + left) + 1 = omega (arith, e) in
    let room_on : count < 16 = omega (arith, few) in
    let few_on : (count + 1) + length ds ≤ 16 = omega (arith, few) in
    let c : (count + 1) + length ds ≡ count + length (d ∷ ds) = omega arith in
    let on = digits_go ds (length ds + left) left (count + 1) (value * 16 + digit_value d) (All-tail (λ v. is_ascii_hexdigit v ≡ true) d ds all) refl few_on
    (fits_next value (pow16 ds) (digit_value d) small (hex_small d hex)) in
    leads_more (at room (Size count value)) (at (length ds + left) (Size (count + 1) (value * 16 + digit_value d))) (at left (Size (count + length (d ∷ ds)) (digits_value_after 16 value (d ∷ ds))))
    (d ∷ []) ds [] []
    (digit_leads room (length ds + left) count value d mid hex room_on (fits_digit value (pow16 ds) d small (pow16_some ds)))
    (subst (λ k. Leads (at (length ds + left) (Size (count + 1) (value * 16 + digit_value d))) ds [] (at left (Size k (digits_value_after 16 (value * 16 + digit_value d) ds)))) c on)

-- behind the digits or the blanks of a size line
pub record SizeEnd (m : Part) (value : ℕ) : Type 0 where
  pub goes_on : (room b : ℕ) → is_ascii_hexdigit b ≡ false → part_step room m b ≡ size_step room value b

pub digits_end : (count value : ℕ) → 0 < count → SizeEnd (Size count value) value
digits_end count value some =
    let t : (count == 0) ≡ false = grind (arith, nat_tests) in
    record { goes_on = λ room b no. rw (no, t) refl }

pub pad_end : (value : ℕ) → SizeEnd (Blank value) value
pad_end value = record { goes_on = λ room b no. refl }

ows_no_digit : (b : ℕ) → is_ows b ≡ true → is_ascii_hexdigit b ≡ false
ows_no_digit b e = grind (arith, nat_tests)

pads_go : (pad : ByteList) (m : Part) (value room left : ℕ) → SizeEnd m value → AllPass is_ows pad → room ≡ length pad + left
    → (n : Part) × SizeEnd n value × Leads (at room m) pad [] (at left n)
pads_go [] m value room left s all e =
    let same : room ≡ left = omega (arith, e) in (m, s, subst (λ r. Leads (at room m) [] [] (at r m)) same (leads_none (at room m)))
pads_go (b ∷ pad) m value room left s all e =
    let mid : room ≡ (length pad + left) + 1 = omega (arith, e) in
    let ows = All-head (λ v. is_ows v ≡ true) b pad all in
    let one : size_step (length pad + left) value b ≡ in_line (length pad + left) (Blank value) = rw ows refl in (
      Blank value,
      pad_end value,
      leads_more (at room m) (at (length pad + left) (Blank value)) (at left (Blank value)) (b ∷ []) pad [] []
          (line_on room (length pad + left) m (Blank value) b mid (s.goes_on (length pad + left) b (ows_no_digit b ows) ∙ one))
          (stay is_ows (Blank value) (λ room b ows. rw ows refl) pad (length pad + left) left (All-tail (λ v. is_ows v ≡ true) b pad all) refl),
    )

extension_stays : (value room b : ℕ) → is_extension_byte b ≡ true → part_step room (Extension value) b ≡ in_line room (Extension value)
extension_stays value room b e =
    let c : (b == 13) ≡ false = grind (arith, nat_tests) in
    let l : (b == 10) ≡ false = grind (arith, nat_tests) in
    rw (c, l) refl

-- a part at which CR ends the size line
pub record FeedsAt (m : Part) (value : ℕ) : Type 0 where
  pub feeds : (room : ℕ) → part_step room m 13 ≡ in_line room (SizeFeed value)

extension_go : (e : Option ByteList) (m : Part) (value room left : ℕ) → SizeEnd m value → IsExtension e → room ≡ length (print_extension e) + left
    → (n : Part) × FeedsAt n value × Leads (at room m) (print_extension e) [] (at left n)
extension_go None m value room left s all e =
    let same : room ≡ left = omega (arith, e) in
    (m, record { feeds = λ r. s.goes_on r 13 refl }, subst (λ r. Leads (at room m) [] [] (at r m)) same (leads_none (at room m)))
extension_go (Some text) m value room left s all e =
    let mid : room ≡ (length text + left) + 1 = omega (arith, e) in (
      Extension value,
      record { feeds = λ r. refl },
      leads_more (at room m) (at (length text + left) (Extension value)) (at left (Extension value)) (59 ∷ []) text [] []
          (line_on room (length text + left) m (Extension value) 59 mid (s.goes_on (length text + left) 59 refl))
          (stay is_extension_byte (Extension value) (extension_stays value) text (length text + left) left all refl),
    )

pub feeds_go : (m : Part) (value room left : ℕ) → FeedsAt m value → room ≡ left + 2 → Leads (at room m) (13 ∷ 10 ∷ []) [] (chunk_start value)
feeds_go m value room left f e =
    let mid : room ≡ (left + 1) + 1 = omega (arith, e) in
    let some : 0 < left + 1 = omega arith in
    leads_more (at room m) (at (left + 1) (SizeFeed value)) (chunk_start value) (13 ∷ []) (10 ∷ []) [] []
    (line_on room (left + 1) m (SizeFeed value) 13 mid (f.feeds (left + 1)))
    (line_leads (left + 1) (SizeFeed value) 10 (chunk_start value) some refl)

line_length : (d p e : ByteList) → length (((d ++ p) ++ e) ++ 13 ∷ 10 ∷ []) ≡ ((length d + length p) + length e) + 2
line_length d p e =
    let a : length (((d ++ p) ++ e) ++ 13 ∷ 10 ∷ []) ≡ length ((d ++ p) ++ e) + 2 = length-append ((d ++ p) ++ e) (13 ∷ 10 ∷ []) in
    let b : length ((d ++ p) ++ e) ≡ length (d ++ p) + length e = length-append (d ++ p) e in
    let c : length (d ++ p) ≡ length d + length p = length-append d p in
    omega (arith, a, b, c)

fits_all : (ds : ByteList) → length ds ≤ 16 → (0 + 1) * pow16 ds ≤ 18446744073709551616
unfolding pow16n
fits_all ds le =
    let most : pow16 ds ≤ 18446744073709551616 = pow16_most 16 ds le in
    omega (arith, most)

-- a size line is taken, and leads to its data or to the trailers
pub size_line_leads : (l : ChunkLine) → IsChunkLine l → length (print_chunk_line l) ≤ 65536 → Leads (at 65536 (Size 0 0)) (print_chunk_line l) [] (chunk_start (chunk_size l))
unfolding print_chunk_line
size_line_leads l is short =
    let d = length l.digits in
    let p = length l.pad in
    let x = length (print_extension l.extension) in
    let len : length (print_chunk_line l) ≡ ((d + p) + x) + 2 = line_length l.digits l.pad (print_extension l.extension) in
    let r4 = 65536 - (((d + p) + x) + 2) in
    let r3 = r4 + 2 in
    let r2 = x + r3 in
    let r1 = p + r2 in
    let all : 65536 ≡ d + r1 = omega (arith, len, short) in
    let few : 0 + d ≤ 16 = omega (arith, is.digits.1) in
    let some : 0 < 0 + d = omega (arith, is.digits.0) in
    let value = digits_value_after 16 0 l.digits in
    let a = digits_go l.digits 65536 r1 0 0 is.digits.2 all few (fits_all l.digits is.digits.1) in
    let b = pads_go l.pad (Size (0 + d) value) value r1 r2 (digits_end (0 + d) value some) is.pad refl in
    let c = extension_go l.extension b.0 value r2 r3 b.1 is.extension refl in
    let e = feeds_go c.0 value r3 r4 c.1 refl in
    leads_more (at 65536 (Size 0 0)) (at r3 c.0) (chunk_start value) ((l.digits ++ l.pad) ++ print_extension l.extension) (13 ∷ 10 ∷ []) [] []
    (leads_more (at 65536 (Size 0 0)) (at r2 b.0) (at r3 c.0) (l.digits ++ l.pad) (print_extension l.extension) [] []
    (leads_more (at 65536 (Size 0 0)) (at r1 (Size (0 + d) value)) (at r2 b.0) l.digits l.pad [] [] a b.2) c.2) e
