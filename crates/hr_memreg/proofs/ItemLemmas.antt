-- Lemmas on the words of specs/Item.antt: a store in one repository, as the content sees it.
use Rattle.std.proofs.Common.{◌≡◌, refl, sym, ap, ◌∙◌, Some, None}
use Rattle.std.specs.Option.{unwrap_or}
use Rattle.std.specs.Map.{keys_of, lookup, set_value}
use Rattle.std.specs.BTreeMap.{insert_entry, is_at}
use Rattle.std.specs.Cmp.Lexicographic.{slice_cmp}
use Rattle.std.specs.Ordering.{nat_cmp}
use Rattle.std.specs.List.Sorted.{IsStrictlySortedBy}
use Rattle.std.proofs.lemmas.Cmp.{nat_list_cmp_total}
use Rattle.std.proofs.lemmas.Map.Steps.{set_value_same}
use Rattle.hr_base.specs.Bytes.{ByteList}
use Rattle.hr_name.specs.Name.{RepoName}
use Rattle.hr_name.specs.Tag.{TagName}
use Rattle.hr_digest.specs.declared.digest.Digest.{Digest}
use Rattle.hr_event.specs.declared.reference.Fetched.{Fetched}
use Rattle.hr_adapter.specs.Content.{Content, Repo, empty_repo, repo_at, with_blob, with_manifest, with_repo, with_tag}
use Rattle.hr_memreg.specs.declared.repository.Item.TheVariants as of
use Rattle.hr_memreg.specs.Item.{with_item}
use Rattle.hr_memreg.proofs.OverLemmas.{insert_over}

-- a repository that stands there is changed where it stands
pub with_repo-there : (c : Content) (repo : RepoName) (change : Repo → Repo) (old new : Repo) (after : Content)
    → IsStrictlySortedBy (slice_cmp nat_cmp) (keys_of c) → lookup (is_at (slice_cmp nat_cmp repo)) c ≡ Some old
    → after ≡ set_value (is_at (slice_cmp nat_cmp repo)) c new → new ≡ change old → after ≡ with_repo c repo change
unfolding repo_at
with_repo-there c repo change old new after sorted there is made =
    is ∙ sym (insert_over nat_list_cmp_total c repo old new sorted there)
    ∙ ap (insert_entry (slice_cmp nat_cmp) c repo) (made ∙ ap (λ held. change (unwrap_or held empty_repo)) (sym there))

-- a repository that was not changed
pub with_repo-kept : (c : Content) (repo : RepoName) (old new : Repo) (after : Content)
    → lookup (is_at (slice_cmp nat_cmp repo)) c ≡ Some old
    → after ≡ set_value (is_at (slice_cmp nat_cmp repo)) c new → new ≡ old → after ≡ c
with_repo-kept c repo old new after there is same =
    is ∙ ap (set_value (is_at (slice_cmp nat_cmp repo)) c) same
    ∙ set_value_same (is_at (slice_cmp nat_cmp repo)) c old there

-- a new repository holds nothing before
pub with_repo-new : (c : Content) (repo key : RepoName) (change : Repo → Repo) (new : Repo) (after : Content)
    → lookup (is_at (slice_cmp nat_cmp repo)) c ≡ None → key ≡ repo → new ≡ change empty_repo
    → after ≡ insert_entry (slice_cmp nat_cmp) c key new → after ≡ with_repo c repo change
unfolding repo_at
with_repo-new c repo key change new after none same made is =
    is ∙ ap (λ k. insert_entry (slice_cmp nat_cmp) c k new) same
    ∙ ap (insert_entry (slice_cmp nat_cmp) c repo) (made ∙ ap (λ held. change (unwrap_or held empty_repo)) (sym none))

-- ---- the three items, as contracts say them

pub blob_item : (c : Content) (repo : RepoName) (d : Digest) (bytes : ByteList)
    → with_repo c repo (with_item (of.Blob d bytes)) ≡ with_blob c repo d bytes
unfolding with_blob
blob_item c repo d bytes = refl

pub manifest_item : (c : Content) (repo : RepoName) (d : Digest) (m : Fetched)
    → with_repo c repo (with_item (of.Manifest d m)) ≡ with_manifest c repo d m
unfolding with_manifest
manifest_item c repo d m = refl

pub tag_item : (c : Content) (repo : RepoName) (tag : TagName) (d : Digest)
    → with_repo c repo (with_item (of.Tag tag d)) ≡ with_tag c repo tag d
unfolding with_tag
tag_item c repo tag d = refl
