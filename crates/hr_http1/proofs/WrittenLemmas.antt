-- Lemmas on the text that is written, and on what a device was sent of it.
use Rattle.std.proofs.Common.{◌≡◌, ℕ, ◌+◌, ◌/◌, ◌%◌, ◌<◌, ◌≤◌, Bool, true, false, ◌&&◌, arith, List, map, [], ◌∷◌, ◌++◌, refl, sym, ap, ◌∙◌, append_assoc, append-nil, Option}
use Rattle.std.specs.Prelude.{codes, decimal, nat_le, if◌then◌else◌, unwrap_or}
use Rattle.std.proofs.lemmas.Bool.Decides.{nat_tests}
use Rattle.std.proofs.lemmas.List.{map-append}
use Rattle.http.specs.StatusCode.{reason_phrase}
use Rattle.hr_frame.specs.declared.head.Head.{Head}
use Rattle.hr_head.specs.Field.{pair_of}
use Rattle.std.proofs.lemmas.Grind.{flat_map-append}
use Rattle.http1.specs.Head.{print_header, print_headers, response_text, request_text, section_text}
use Rattle.http1.proofs.HeadLemmas.{request_text_is, response_text_is}
use Rattle.hr_base.specs.Bytes.{ByteList}
use Rattle.hr_cause.specs.Stream.{Took, TookFront}
use Rattle.hr_cause.proofs.StreamLaws.{took_none, took_more}
use Rattle.hr_head.specs.declared.verb.Verb.{Verb}
use Rattle.hr_http1.specs.Written.{length_lines, print_lines, method_of, reason_of, status_line, request_line}

in_range : (status : ℕ) → 100 ≤ status → status < 1000 → (nat_le 100 status && nat_le status 999) ≡ true
in_range status low high = grind (arith, nat_tests)

out_of_range : (status : ℕ) → ((100 ≤ status) × (status < 1000) → ⊥) → (nat_le 100 status && nat_le status 999) ≡ false
out_of_range status out = grind (arith, nat_tests)

-- the reason of a status of three digits
pub reason_known : (status : ℕ) (reason : Option ByteList) → 100 ≤ status → status < 1000 → reason ≡ reason_phrase status → unwrap_or reason [] ≡ reason_of status
unfolding reason_of
reason_known status reason low high e =
    ap (λ o. unwrap_or o []) e ∙ ap (λ b. if b then unwrap_or (reason_phrase status) [] else []) (sym (in_range status low high))

pub reason_none : (status : ℕ) → ((100 ≤ status) × (status < 1000) → ⊥) → [] ≡ reason_of status
unfolding reason_of
reason_none status out = ap (λ b. if b then unwrap_or (reason_phrase status) [] else []) (sym (out_of_range status out))

pub length_put : (t new value : ByteList) (written : Bool) (n : ℕ) → written ≡ true → value ≡ decimal n
    → new ≡ t ++ print_header (codes "Content-Length", value) → new ≡ t ++ print_lines (length_lines written n)
length_put t new value written n on is put =
    put ∙ ap (λ v. t ++ print_header (codes "Content-Length", v)) is
    ∙ ap (λ l. t ++ l) (sym (append-nil (print_header (codes "Content-Length", decimal n))))
    ∙ ap (λ w. t ++ print_lines (length_lines w n)) (sym on)

regroup_line : (t h d r e : ByteList) → (((t ++ h) ++ d) ++ r) ++ e ≡ t ++ (h ++ (d ++ (r ++ e)))
regroup_line t h d r e = simp append_assoc

pub status_put : (t a b d e r : ByteList) (x y z status : ℕ) → a ≡ t ++ codes "HTTP/1.1 " → b ≡ a ++ (x ∷ y ∷ z ∷ 32 ∷ []) → d ≡ b ++ r
    → x ≡ 48 + status / 100 % 10 → y ≡ 48 + status / 10 % 10 → z ≡ 48 + status % 10 → r ≡ reason_of status → e ≡ d ++ (13 ∷ 10 ∷ []) → e ≡ t ++ status_line status
status_put t a b d e r x y z status pa pb pd px py pz pr pe =
    pe ∙ ap (λ l. l ++ (13 ∷ 10 ∷ [])) (pd ∙ ap (λ l. l ++ r) (pb ∙ ap (λ l. l ++ (x ∷ y ∷ z ∷ 32 ∷ [])) pa))
    ∙ regroup_line t (codes "HTTP/1.1 ") (x ∷ y ∷ z ∷ 32 ∷ []) r (13 ∷ 10 ∷ [])
    ∙ (λ i. t ++ (codes "HTTP/1.1 " ++ ((px i ∷ py i ∷ pz i ∷ 32 ∷ []) ++ (pr i ++ (13 ∷ 10 ∷ [])))))

lines_append : (hs ls : List Head) → print_lines (hs ++ ls) ≡ print_lines hs ++ print_lines ls
lines_append hs ls = ap print_headers (map-append pair_of hs ls) ∙ flat_map-append print_header (map pair_of hs) (map pair_of ls)

regroup : (l h k e : ByteList) → ((l ++ h) ++ k) ++ e ≡ l ++ ((h ++ k) ++ e)
regroup l h k e = simp append_assoc

section_put : (line a b c d : ByteList) (hs ls : List Head) → a ≡ line
    → b ≡ a ++ print_lines hs → c ≡ b ++ print_lines ls → d ≡ c ++ (13 ∷ 10 ∷ []) → d ≡ section_text line (map pair_of (hs ++ ls))
section_put line a b c d hs ls pa pb pc pd =
    pd ∙ ap (λ x. x ++ (13 ∷ 10 ∷ [])) (pc ∙ ap (λ x. x ++ print_lines ls) (pb ∙ ap (λ x. x ++ print_lines hs) pa))
    ∙ regroup line (print_lines hs) (print_lines ls) (13 ∷ 10 ∷ [])
    ∙ ap (λ x. line ++ (x ++ (13 ∷ 10 ∷ []))) (sym (lines_append hs ls))

pub reply_put : (a b c d : ByteList) (status : ℕ) (hs ls : List Head) → a ≡ status_line status
    → b ≡ a ++ print_lines hs → c ≡ b ++ print_lines ls → d ≡ c ++ (13 ∷ 10 ∷ []) → d ≡ response_text 1 status (reason_of status) (map pair_of (hs ++ ls))
reply_put a b c d status hs ls pa pb pc pd = section_put (status_line status) a b c d hs ls pa pb pc pd ∙ response_text_is 1 status (reason_of status) (map pair_of (hs ++ ls))

pub request_put : (a b c d : ByteList) (verb : Verb) (target : ByteList) (hs ls : List Head) → a ≡ request_line verb target
    → b ≡ a ++ print_lines hs → c ≡ b ++ print_lines ls → d ≡ c ++ (13 ∷ 10 ∷ []) → d ≡ request_text (method_of verb) target 1 (map pair_of (hs ++ ls))
request_put a b c d verb target hs ls pa pb pc pd = section_put (request_line verb target) a b c d hs ls pa pb pc pd ∙ request_text_is (method_of verb) target 1 (map pair_of (hs ++ ls))

-- where nothing was sent, a front of any text was
pub none_sent : (a : Option ByteList) (text : ByteList) → TookFront a text a
none_sent a text = ([], text, refl, took_none a)

-- a front of the first text is one of both
pub front_sent : (a b : Option ByteList) (one other : ByteList) → TookFront a one b → TookFront a (one ++ other) b
front_sent a b one other (front, rest, is, took) = (front, rest ++ other, ap (λ l. l ++ other) is ∙ append_assoc front rest other, took)

-- the first text and a front of the second are a front of both
pub more_sent : (a b c : Option ByteList) (one other : ByteList) → Took a one b → TookFront b other c → TookFront a (one ++ other) c
more_sent a b c one other took (front, rest, is, more) =
    (one ++ front, rest, ap (λ l. one ++ l) is ∙ sym (append_assoc one front rest), took_more a b c one front took more)
