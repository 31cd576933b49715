-- Listings are read back from their bodies.
use Rattle.std.proofs.Common.{◌≡◌, ◌<◌, ◌≤◌, true, false, cond, List, [], ◌∷◌, ◌++◌, length, codes, Option, Some, None, refl, sym, ap, ap₂, ◌∙◌, arith, append_assoc, append-nil, IsUtf8}
use Rattle.std.specs.Prelude.{nat_le, option_and_then, option_map}
use Rattle.std.specs.List.{AllByRecursion}
use Rattle.std.proofs.lemmas.Bool.{false_from_ne_true, le-leb, leb-true}
use Rattle.std.proofs.lemmas.Str.{IsUtf8-append, IsUtf8-nil, is_utf8-from_IsUtf8}
use Rattle.json.specs.Json as json
use Rattle.json.specs.Lex.{tokens}
use Rattle.json.specs.Print as print
use Rattle.json.specs.Print.{escape, escape_byte}
use Rattle.json.specs.Token.{Token}
use Rattle.json.specs.Tree.{json_tokens, depth, items_depth, HasNumbers, ItemsHaveNumbers}
use Rattle.json.proofs.Printed.Tokens.{tokens-print}
use Rattle.json.proofs.Printed.Trees.{value-json_tokens, ArePrintable-json_tokens}
use Rattle.json.proofs.Printed.Utf8.{IsUtf8-are_ascii}
use Rattle.serde_json.specs.Data.{Data, string, array, object, Items, no_items, item, no_members, member}
use Rattle.serde_json.specs.Read.{read, max_depth, of_json, of_items}
use Rattle.serde_json.specs.Written.{compact_text, items_text, outline, items_outline}
use Rattle.serde_json.proofs.Texts.{print-outline}
use Rattle.hr_base.specs.Bytes.{Text}
use Rattle.hr_call.specs.Reading.{name_in, tag_in}
use Rattle.hr_json.specs.Doc.{document_of}
use Rattle.hr_json.specs.Node.{list_of}
use Rattle.hr_json.specs.declared.doc.TheConstants.{DOC_LIMIT}
use Rattle.hr_name.specs.Name.{RepoName}
use Rattle.hr_name.specs.Tag.{TagName}
use Rattle.hr_wire.specs.Listing.{each_read, json_in, listed, quoted, repos_in, repos_text, repos_within, tags_in, tags_text, tags_within, with_first}
use Rattle.hr_wire.proofs.GrammarLemmas.{AreUnescaped, escape_nothing, unescaped_ascii}

-- ---- the values

-- texts as the items of a list
abbrev strings : List Text → Items
strings [] = no_items
strings (text ∷ texts) = item (string text) (strings texts)

abbrev repos_data : List Text → Data
repos_data repos = object (member (codes "repositories") (array (strings repos)) no_members)

abbrev tags_data : Text → List Text → Data
tags_data repo tags =
    object (member (codes "name") (string repo) (member (codes "tags") (array (strings tags)) no_members))

-- ---- their texts

quoted_unescaped : (text : Text) → AreUnescaped text → print.quoted text ≡ quoted text
quoted_unescaped text all = ap (λ (t : Text). 34 ∷ (t ++ 34 ∷ [])) (escape_nothing text all)

further_texts : (text : Text) (texts : List Text) → AreUnescaped text → AllByRecursion AreUnescaped texts
    → print.quoted text ++ items_text true (strings texts) ≡ listed (text ∷ texts) ++ 93 ∷ []
further_texts text [] one all = ap (λ (t : Text). t ++ 93 ∷ []) (quoted_unescaped text one)
further_texts text (next ∷ texts) one all =
    ap₂ (λ (l m : Text). l ++ 44 ∷ m) (quoted_unescaped text one) (further_texts next texts all.0 all.1)
    ∙ sym (append_assoc (quoted text) (44 ∷ listed (next ∷ texts)) (93 ∷ []))

list_text : (texts : List Text) → AllByRecursion AreUnescaped texts → items_text false (strings texts) ≡ listed texts ++ 93 ∷ []
list_text [] all = refl
list_text (text ∷ texts) all = further_texts text texts all.0 all.1

repos_form : (repos : List Text) → compact_text (repos_data repos) ≡ codes "{\"repositories\":[" ++ (items_text false (strings repos) ++ codes "}")
unfolding escape_byte
repos_form repos = refl

repos_compact : (repos : List Text) → AllByRecursion AreUnescaped repos → compact_text (repos_data repos) ≡ repos_text repos
repos_compact repos all =
    repos_form repos ∙ ap (λ (t : Text). codes "{\"repositories\":[" ++ (t ++ codes "}")) (list_text repos all)
    ∙ ap (λ (t : Text). codes "{\"repositories\":[" ++ t) (append_assoc (listed repos) (93 ∷ []) (codes "}"))

tags_form : (repo : Text) (tags : List Text) → compact_text (tags_data repo tags)
    ≡ codes "{\"name\":\"" ++ ((escape repo ++ 34 ∷ []) ++ (codes ",\"tags\":[" ++ (items_text false (strings tags) ++ codes "}")))
unfolding escape_byte
tags_form repo tags = refl

tags_compact : (repo : Text) (tags : List Text) → AreUnescaped repo → AllByRecursion AreUnescaped tags → compact_text (tags_data repo tags) ≡ tags_text repo tags
tags_compact repo tags one all =
    tags_form repo tags
    ∙ ap₂ (λ (r t : Text). codes "{\"name\":\"" ++ ((r ++ 34 ∷ []) ++ (codes ",\"tags\":[" ++ (t ++ codes "}")))) (escape_nothing repo one) (list_text tags all)
    ∙ ap (λ (t : Text). codes "{\"name\":\"" ++ t)
    (append_assoc repo (34 ∷ []) (codes ",\"tags\":[" ++ ((listed tags ++ 93 ∷ []) ++ codes "}"))
    ∙ ap (λ (t : Text). repo ++ (codes "\",\"tags\":[" ++ t)) (append_assoc (listed tags) (93 ∷ []) (codes "}")))

-- ---- their values again

-- the data of what a parser of the grammar gives
abbrev whole : Option (json.Json × List Token) → Option Data
whole o = option_and_then of_json (option_and_then (λ p. json.if_last p.0 p.1) o)

-- a value whose outline reads as itself, once it is written, is read as itself
read_outline : (d : Data) → HasNumbers (outline d) → depth (outline d) ≤ max_depth → of_json (outline d) ≡ Some d → read (compact_text d) ≡ Some d
read_outline d numbers shallow same =
    let ts = json_tokens (outline d) in
    let back : tokens (compact_text d) ≡ ts = ap tokens (sym (print-outline d)) ∙ tokens-print ts (ArePrintable-json_tokens (outline d) numbers) in
    ap whole (ap (json.value max_depth) (back ∙ sym (append-nil ts)) ∙ value-json_tokens (outline d) max_depth [] shallow) ∙ same

no_numbers : (texts : List Text) → ItemsHaveNumbers (items_outline (strings texts))
no_numbers [] = tt
no_numbers (text ∷ texts) = (tt, no_numbers texts)

flat : (texts : List Text) → items_depth (items_outline (strings texts)) ≤ 0
flat [] = omega arith
flat (text ∷ texts) = omega (arith, flat texts)

strings_back : (texts : List Text) → of_items (items_outline (strings texts)) ≡ Some (strings texts)
strings_back [] = refl
strings_back (text ∷ texts) = ap (λ (o : Option Items). option_map (item (string text)) o) (strings_back texts)

repos_read : (repos : List Text) → read (compact_text (repos_data repos)) ≡ Some (repos_data repos)
repos_read repos =
    read_outline (repos_data repos) (no_numbers repos, tt) (omega (arith, flat repos)) (rw (strings_back repos) refl)

tags_read : (repo : Text) (tags : List Text) → read (compact_text (tags_data repo tags)) ≡ Some (tags_data repo tags)
tags_read repo tags =
    read_outline (tags_data repo tags) (tt, (no_numbers tags, tt)) (omega (arith, flat tags)) (rw (strings_back tags) refl)

-- ---- UTF-8

quoted_utf8 : (text : Text) → AreUnescaped text → IsUtf8 (quoted text)
quoted_utf8 text all =
    IsUtf8-append (34 ∷ []) (text ++ 34 ∷ []) (IsUtf8-are_ascii (34 ∷ []) refl)
    (IsUtf8-append text (34 ∷ []) (IsUtf8-are_ascii text (unescaped_ascii text all)) (IsUtf8-are_ascii (34 ∷ []) refl))

listed_utf8 : (texts : List Text) → AllByRecursion AreUnescaped texts → IsUtf8 (listed texts)
listed_utf8 [] all = IsUtf8-nil
listed_utf8 (text ∷ []) all = quoted_utf8 text all.0
listed_utf8 (text ∷ next ∷ texts) all =
    IsUtf8-append (quoted text) (44 ∷ listed (next ∷ texts)) (quoted_utf8 text all.0)
    (IsUtf8-append (44 ∷ []) (listed (next ∷ texts)) (IsUtf8-are_ascii (44 ∷ []) refl) (listed_utf8 (next ∷ texts) all.1))

repos_utf8 : (repos : List Text) → AllByRecursion AreUnescaped repos → IsUtf8 (repos_text repos)
repos_utf8 repos all =
    IsUtf8-append (codes "{\"repositories\":[") (listed repos ++ codes "]}") (IsUtf8-are_ascii (codes "{\"repositories\":[") refl)
    (IsUtf8-append (listed repos) (codes "]}") (listed_utf8 repos all) (IsUtf8-are_ascii (codes "]}") refl))

tags_utf8 : (repo : Text) (tags : List Text) → AreUnescaped repo → AllByRecursion AreUnescaped tags → IsUtf8 (tags_text repo tags)
tags_utf8 repo tags one all =
    IsUtf8-append (codes "{\"name\":\"") (repo ++ (codes "\",\"tags\":[" ++ (listed tags ++ codes "]}"))) (IsUtf8-are_ascii (codes "{\"name\":\"") refl)
    (IsUtf8-append repo (codes "\",\"tags\":[" ++ (listed tags ++ codes "]}")) (IsUtf8-are_ascii repo (unescaped_ascii repo one))
    (IsUtf8-append (codes "\",\"tags\":[") (listed tags ++ codes "]}") (IsUtf8-are_ascii (codes "\",\"tags\":[") refl)
    (IsUtf8-append (listed tags) (codes "]}") (listed_utf8 tags all) (IsUtf8-are_ascii (codes "]}") refl))))

-- ---- what is listed

-- what a body within the limit is as JSON, and that a longer one is none
pub json_some : (body : Text) (d : Data) → length body ≤ DOC_LIMIT → document_of body ≡ Some d → Some d ≡ json_in body
json_some body d short is = sym (ap (λ t. cond t (document_of body) None) (le-leb (length body) DOC_LIMIT short) ∙ is)

pub json_none : (body : Text) → length body ≤ DOC_LIMIT → document_of body ≡ None → None ≡ json_in body
json_none body short is = sym (ap (λ t. cond t (document_of body) None) (le-leb (length body) DOC_LIMIT short) ∙ is)

pub json_long : (body : Text) → DOC_LIMIT < length body → None ≡ json_in body
json_long body long =
    ap (λ t. cond t (document_of body) None)
    (sym (false_from_ne_true (nat_le (length body) DOC_LIMIT) (λ t. let short = leb-true (length body) DOC_LIMIT t in omega (arith, short, long))))

-- a body within the limit is read as its value
value_back : (body : Text) (d : Data) → IsUtf8 body → length body ≤ DOC_LIMIT → read body ≡ Some d → json_in body ≡ Some d
value_back body d utf8 short is =
    ap (λ t. cond t (document_of body) None) (le-leb (length body) DOC_LIMIT short)
    ∙ ap (λ t. cond t (read body) None) (is_utf8-from_IsUtf8 body utf8) ∙ is

each_back : (reads : Text → Option Text) (texts : List Text) → AllByRecursion (λ (text : Text). reads text ≡ Some text) texts → each_read reads (list_of (strings texts)) ≡ Some texts
each_back reads [] all = refl
each_back reads (text ∷ texts) all =
    let rest = each_back reads texts all.1 in
    λ i. with_first (all.0 i) (rest i)

-- a page of repositories is read back
pub repos_back : (repos : List RepoName) → AllByRecursion AreUnescaped repos → AllByRecursion (λ (repo : Text). name_in repo ≡ Some repo) repos → length (repos_text repos) ≤ DOC_LIMIT
    → repos_in (repos_text repos) ≡ Some repos
repos_back repos plain named short =
    let is = ap read (sym (repos_compact repos plain)) ∙ repos_read repos in
    let value = value_back (repos_text repos) (repos_data repos) (repos_utf8 repos plain) short is in
    ap (λ (d : Option Data). option_and_then repos_within d) value
    ∙ each_back name_in repos named

-- a page of tags is read back
pub tags_back : (repo : RepoName) (tags : List TagName) → AreUnescaped repo → AllByRecursion AreUnescaped tags → AllByRecursion (λ (tag : Text). tag_in tag ≡ Some tag) tags
    → length (tags_text repo tags) ≤ DOC_LIMIT → tags_in (tags_text repo tags) ≡ Some tags
tags_back repo tags one plain tagged short =
    let is = ap read (sym (tags_compact repo tags one plain)) ∙ tags_read repo tags in
    let value = value_back (tags_text repo tags) (tags_data repo tags) (tags_utf8 repo tags one plain) short is in
    ap (λ (d : Option Data). option_and_then tags_within d) value
    ∙ each_back tag_in tags tagged
