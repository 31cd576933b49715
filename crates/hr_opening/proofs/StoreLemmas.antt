-- The children of an index: one tag after the other, and their media types.
use Rattle.std.proofs.Common.{◌≡◌, ◌<◌, ◌≤◌, ◌+◌, ℕ, List, [], ◌∷◌, ◌++◌, length, get_or, drop, Option, Some, None, option_map, option_and_then, IfSome, refl, sym, ap, subst, ◌∙◌, append_assoc}
use Rattle.std.specs.List.{All}
use Rattle.std.proofs.lemmas.List.{append-nil, at_drop_more, drop_all}
use Rattle.std.proofs.lemmas.List.Elements.{All-cons, All-nil}
use Rattle.hr_base.specs.Bytes.{ByteList, Media}
use Rattle.hr_digest.specs.declared.digest.Digest.{Digest}
use Rattle.hr_name.specs.Name.{RepoName}
use Rattle.hr_name.specs.Tag.{TagName}
use Rattle.hr_event.specs.declared.reference.Fetched.{Fetched}
use Rattle.hr_event.specs.declared.reference.Reference.TheVariants as by
use Rattle.hr_manifest.specs.Canonical.{index_media, index_text}
use Rattle.hr_text.specs.Escaping.{IsUnescaped}
use Rattle.hr_manifest.specs.declared.child.Child.{Child}
use Rattle.hr_manifest.specs.declared.child.ChildKind.TheVariants as kind
use Rattle.hr_adapter.specs.Content.{Content, manifest_at, tag_at}
use Rattle.hr_adapter.specs.Put.{put_under}
use Rattle.hr_opening.specs.Stored.{IsPlain, child_of, children_of, with_index}

-- these children before the others
abbrev pub behind : List Child → Option (List Child) → Option (List Child)
behind kids (Some others) = Some (kids ++ others)
behind kids None = None

pub behind_nothing : (others : Option (List Child)) → others ≡ behind [] others
behind_nothing (Some others) = refl
behind_nothing None = refl

behind_one : (kids : List Child) (kid : Child) (others : Option (List Child))
    → behind kids (option_map (λ rest. kid ∷ rest) others) ≡ behind (kids ++ kid ∷ []) others
behind_one kids kid (Some others) = ap Some (sym (append_assoc kids (kid ∷ []) others))
behind_one kids kid None = refl

-- one tag more was found
pub child_found : (c : Content) (repo : RepoName) (tags : List TagName) (at : ℕ) (kids : List Child) (kid : Child) (tag : TagName)
    → children_of c repo tags ≡ behind kids (children_of c repo (drop at tags)) → at < length tags → tag ≡ get_or tags at tag
    → child_of c repo tag ≡ Some kid → children_of c repo tags ≡ behind (kids ++ kid ∷ []) (children_of c repo (drop (at + 1) tags))
child_found c repo tags at kids kid tag so_far within is found =
    let rest = children_of c repo (drop (at + 1) tags) in
    let step : children_of c repo (drop at tags) ≡ option_map (λ others. kid ∷ others) rest =
    at_drop_more (children_of c repo) tags at tag within
    ∙ ap (λ (t : TagName). option_and_then (λ child. option_map (λ others. child ∷ others) rest) (child_of c repo t)) (sym is)
    ∙ ap (λ (o : Option Child). option_and_then (λ child. option_map (λ others. child ∷ others) rest) o) found
    in
    so_far ∙ ap (behind kids) step ∙ behind_one kids kid rest

-- a tag that leads to none
pub child_lacks : (c : Content) (repo : RepoName) (tags : List TagName) (at : ℕ) (kids : List Child) (tag : TagName)
    → children_of c repo tags ≡ behind kids (children_of c repo (drop at tags)) → at < length tags → tag ≡ get_or tags at tag
    → child_of c repo tag ≡ None → children_of c repo tags ≡ None
child_lacks c repo tags at kids tag so_far within is lacks =
    let rest = children_of c repo (drop (at + 1) tags) in
    let step : children_of c repo (drop at tags) ≡ None =
    at_drop_more (children_of c repo) tags at tag within
    ∙ ap (λ (t : TagName). option_and_then (λ child. option_map (λ others. child ∷ others) rest) (child_of c repo t)) (sym is)
    ∙ ap (λ (o : Option Child). option_and_then (λ child. option_map (λ others. child ∷ others) rest) o) lacks
    in
    so_far ∙ ap (behind kids) step

-- all tags were found
pub children_found : (c : Content) (repo : RepoName) (tags : List TagName) (at : ℕ) (kids : List Child)
    → children_of c repo tags ≡ behind kids (children_of c repo (drop at tags)) → length tags ≤ at → children_of c repo tags ≡ Some kids
children_found c repo tags at kids so_far past =
    so_far ∙ ap (λ (rest : List TagName). behind kids (children_of c repo rest)) (drop_all at tags past) ∙ ap Some (append-nil kids)

-- ---- one child

-- a manifest under its digest, as a child
abbrev child_under : Digest → Fetched → Child
child_under d m = record { kind = kind.Manifest; digest = d; size = length m.bytes; media = m.media }

-- the child that was read
pub child_read : (c : Content) (repo : RepoName) (tag : TagName) (d : Digest) (m : Fetched) (bytes : ByteList) (media : Media)
    → tag_at c repo tag ≡ Some d → manifest_at c repo d ≡ Some m → bytes ≡ m.bytes → media ≡ m.media
    → child_of c repo tag ≡ Some (record { kind = kind.Manifest; digest = d; size = length bytes; media = media })
child_read c repo tag d m bytes media names there same_bytes same_media =
    ap (option_and_then (λ e. option_map (child_under e) (manifest_at c repo e))) names
    ∙ ap (option_map (child_under d)) there
    ∙ ap (λ (b : ByteList). Some (record { kind = kind.Manifest; digest = d; size = length b; media = m.media })) (sym same_bytes)
    ∙ ap (λ (t : Media). Some (record { kind = kind.Manifest; digest = d; size = length bytes; media = t })) (sym same_media)

pub child_is_none : (c : Content) (repo : RepoName) (tag : TagName) → tag_at c repo tag ≡ None → child_of c repo tag ≡ None
child_is_none c repo tag none = ap (option_and_then (λ e. option_map (child_under e) (manifest_at c repo e))) none

pub child_is_lost : (c : Content) (repo : RepoName) (tag : TagName) (d : Digest) → tag_at c repo tag ≡ Some d → manifest_at c repo d ≡ None
    → child_of c repo tag ≡ None
child_is_lost c repo tag d names none =
    ap (option_and_then (λ e. option_map (child_under e) (manifest_at c repo e))) names ∙ ap (option_map (child_under d)) none

-- ---- their media types

media_plain : (d : Digest) (kid : Child) (m : Option Fetched) → IfSome m (λ n. IsUnescaped n.media)
    → option_map (child_under d) m ≡ Some kid → IsUnescaped kid.media
media_plain d kid None h is = cc is
media_plain d kid (Some m) h is =
    let e : child_under d m ≡ kid = cc is in
    subst (λ (k : Child). IsUnescaped k.media) e h

child_plain : (c : Content) (repo : RepoName) (kid : Child) → IsPlain c → (named : Option Digest)
    → option_and_then (λ d. option_map (child_under d) (manifest_at c repo d)) named ≡ Some kid → IsUnescaped kid.media
child_plain c repo kid plain None is = cc is
child_plain c repo kid plain (Some d) is = media_plain d kid (manifest_at c repo d) (plain repo d) is

first_of : (kid : Option Child) (others : Option (List Child)) (kids : List Child)
    → option_and_then (λ child. option_map (λ rest. child ∷ rest) others) kid ≡ Some kids
    → (first : Child) × (rest : List Child) × (kid ≡ Some first) × (others ≡ Some rest) × (kids ≡ first ∷ rest)
first_of None others kids is = cc is
first_of (Some kid) None kids is = cc is
first_of (Some kid) (Some rest) kids is =
    let e : kid ∷ rest ≡ kids = cc is in
    (kid, rest, refl, refl, sym e)

pub children_plain : (c : Content) (repo : RepoName) (tags : List TagName) (kids : List Child) → IsPlain c → children_of c repo tags ≡ Some kids
    → All (λ child. IsUnescaped child.media) kids
children_plain c repo [] kids plain is =
    let e : [] ≡ kids = cc is in
    subst (λ (k : List Child). All (λ child. IsUnescaped child.media) k) e (All-nil (λ (child : Child). IsUnescaped child.media))
children_plain c repo (tag ∷ tags) kids plain is =
    let parts = first_of (child_of c repo tag) (children_of c repo tags) kids is in
    subst (λ (k : List Child). All (λ child. IsUnescaped child.media) k) (sym parts.4)
    (All-cons (λ (child : Child). IsUnescaped child.media) parts.0 parts.1 (child_plain c repo parts.0 plain (tag_at c repo tag) parts.2)
    (children_plain c repo tags parts.1 plain parts.3))

-- ---- the index that was stored

pub index_made : (c : Content) (repo : RepoName) (tag : TagName) (tags : List TagName) (kids : List Child) (media : Media) (bytes : ByteList) (new : Content)
    → children_of c repo tags ≡ Some kids → new ≡ put_under repo (by.Tag tag) media bytes c → media ≡ index_media → bytes ≡ index_text kids
    → option_map (λ found. with_index repo tag found c) (children_of c repo tags) ≡ Some new
index_made c repo tag tags kids media bytes new found made is text =
    ap (option_map (λ found. with_index repo tag found c)) found
    ∙ ap Some (sym (made ∙ ap (λ (m : Media). put_under repo (by.Tag tag) m bytes c) is ∙ ap (λ (b : ByteList). put_under repo (by.Tag tag) index_media b c) text))
