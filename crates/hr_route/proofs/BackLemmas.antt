-- What is asked is read back: each route leads its own way, of which its verb asks that route.
use Rattle.std.proofs.Common.{◌≡◌, ◌≢◌, ℕ, [], ◌∷◌, ◌++◌, Some, Option, Result, Ok, refl, sym, ap, ◌∙◌, subst, codes, inl, inr, unwrap_or}
use Rattle.percent_encoding.specs.Percent.{percent_decode}
use Rattle.hr_base.specs.Bytes.{Text}
use Rattle.hr_call.proofs.ReadingLaws.{digest_back, name_back, reference_back}
use Rattle.hr_call.specs.Reading.{IsReference, digest_in, name_in, reference_in, text_of_reference}
use Rattle.hr_digest.specs.Digest.{text_of_digest}
use Rattle.hr_digest.specs.Reading.{IsWhole}
use Rattle.hr_digest.specs.declared.digest.Digest.{Digest}
use Rattle.hr_event.specs.declared.reference.Reference.{Reference}
use Rattle.hr_head.specs.declared.verb.Verb.{Verb}
use Rattle.hr_head.specs.declared.verb.Verb.TheVariants as verb
use Rattle.hr_name.specs.Name.{RepoName}
use Rattle.hr_route.specs.declared.path.Kind.{Kind}
use Rattle.hr_route.specs.declared.path.Kind.TheVariants as kind
use Rattle.hr_route.specs.declared.route.NoRoute.{NoRoute}
use Rattle.hr_route.specs.declared.route.Route.{Route}
use Rattle.hr_route.specs.declared.route.Route.TheVariants as route
use Rattle.hr_route.specs.Part.{blob_named, both, manifest_named, repo_named}
use Rattle.hr_route.specs.Path.{IsWay, Way, kind_text, last_of, path_text, top, within}
use Rattle.hr_route.specs.Query.{listing_asked, path_of, query_of, values_of, without}
use Rattle.hr_route.specs.Routing.{Answers, IsRouteOf, asked, ending_of, found, on, place_within, session_asked, tags_of, upload_asked}
use Rattle.hr_route.specs.Target.{AreBytes, IsFit, IsRepo, IsSession, last_text, target_text, verb_of}
use Rattle.hr_route.proofs.EndingLemmas.{digest_asked_back, ending_is}
use Rattle.hr_route.proofs.ListingLemmas.{listing_back, uncut}
use Rattle.hr_route.proofs.PathLemmas.{same_way}
use Rattle.hr_route.proofs.PlainLemmas.{AreInPart, ArePlain, decoded_plain, no_query, no_slash_part, part_digest, part_reference, part_text, plain_joined, plain_name, plain_part, plain_text, small_digest}
use Rattle.hr_text.specs.Cutting.{cut_at}
use Rattle.hr_text.proofs.CutLaws.{cut_at_front}

-- a route's target leads this way, of which its verb asks that route
record IsLed (route : Route) : Type 0 where
  pub way : Way
  pub leads : IsWay (path_of (target_text route)) way
  pub asks : asked (verb_of route) way (target_text route) ≡ Ok route

-- ---- paths

plain_kind : (kind : Kind) → ArePlain (kind_text kind)
plain_kind kind.Tags = plain_text (codes "/tags") refl
plain_kind kind.Manifests = plain_text (codes "/manifests") refl
plain_kind kind.Blobs = plain_text (codes "/blobs") refl
plain_kind kind.Uploads = plain_text (codes "/blobs/uploads") refl

plain_behind : (last : Text) → AreInPart last → ArePlain (47 ∷ last)
plain_behind last all = plain_joined (47 ∷ []) last (plain_text (47 ∷ []) refl) (plain_part last all)

plain_within : (repo : RepoName) (kind : Kind) (last : Text) → IsRepo repo → AreInPart last → ArePlain (path_text (within repo kind last))
plain_within repo kind last named all =
    plain_joined (codes "/v2/" ++ (repo ++ kind_text kind)) (47 ∷ last)
    (plain_joined (codes "/v2/") (repo ++ kind_text kind) (plain_text (codes "/v2/") refl)
    (plain_joined repo (kind_text kind) (plain_name named.named) (plain_kind kind)))
    (plain_behind last all)

-- a target without a query leads the way of its path
path_leads : (way : Way) → ArePlain (path_text way) → AreInPart (last_of way) → IsWay (path_of (path_text way)) way
path_leads way plain all = record {
  is = ap (λ p. p.0) (uncut 63 (path_text way) (no_query (path_text way) plain));
  last = no_slash_part (last_of way) all;
}

within_leads : (repo : RepoName) (kind : Kind) (last : Text) → IsRepo repo → AreInPart last
    → IsWay (path_of (path_text (within repo kind last))) (within repo kind last)
within_leads repo kind last named all = path_leads (within repo kind last) (plain_within repo kind last named all) all

-- a target with a query leads the way of its path
query_cut : (way : Way) (query : Text) → ArePlain (path_text way) → cut_at 63 (path_text way ++ 63 ∷ query) ≡ (path_text way, Some query)
query_cut way query plain = cut_at_front 63 (path_text way) query (no_query (path_text way) plain)

query_leads : (way : Way) (query : Text) → ArePlain (path_text way) → AreInPart (last_of way) → IsWay (path_of (path_text way ++ 63 ∷ query)) way
query_leads way query plain all = record {
  is = ap (λ p. p.0) (query_cut way query plain);
  last = no_slash_part (last_of way) all;
}

listing_read : (way : Way) (last : Option Text) → ArePlain (path_text way) → AreBytes last
    → listing_asked (query_of (path_text way ++ 63 ∷ (codes "n=1000" ++ last_text last))) ≡ Some last
listing_read way last plain bytes =
    ap (λ p. listing_asked (unwrap_or p.1 [])) (query_cut way (codes "n=1000" ++ last_text last) plain) ∙ listing_back last bytes

-- ---- parts

repo_back : (repo : RepoName) → IsRepo repo → repo_named repo ≡ Some repo
repo_back repo is = ap name_in (decoded_plain repo (plain_name is.named)) ∙ name_back repo is.named is.short

manifest_back : (repo : RepoName) (reference : Reference) → IsRepo repo → IsReference reference
    → manifest_named repo (text_of_reference reference) ≡ Some (repo, reference)
manifest_back repo reference is refers =
    let last : reference_in (percent_decode (text_of_reference reference)) ≡ Some reference =
    ap reference_in (decoded_plain (text_of_reference reference) (plain_part (text_of_reference reference) (part_reference reference refers)))
    ∙ reference_back reference refers in
    λ i. both (repo_back repo is i) (last i)

blob_back : (repo : RepoName) (digest : Digest) → IsRepo repo → IsWhole digest
    → blob_named repo (text_of_digest digest) ≡ Some (repo, digest)
blob_back repo digest is whole =
    let last : digest_in (percent_decode (text_of_digest digest)) ≡ Some digest =
    ap digest_in (decoded_plain (text_of_digest digest) (plain_part (text_of_digest digest) (part_digest digest whole)))
    ∙ digest_back digest whole in
    λ i. both (repo_back repo is i) (last i)

-- ---- sessions

keyed : (method : Verb) (repo key target : Text) → key ≢ [] → upload_asked method repo key target ≡ session_asked method repo target
keyed method repo [] target some = absurd (some refl)
keyed method repo (byte ∷ key) target some = refl

placed : (repo at : Text) (name : RepoName) → repo_named repo ≡ Some name → place_within (repo_named repo) at ≡ Some at
placed repo at name named = ap (λ r. place_within r at) named

-- ---- each route

manifest_led : (repo : RepoName) (reference : Reference) → IsRepo repo → IsReference reference
    → IsWay (path_of (path_text (within repo kind.Manifests (text_of_reference reference)))) (within repo kind.Manifests (text_of_reference reference))
manifest_led repo reference is refers =
    within_leads repo kind.Manifests (text_of_reference reference) is (part_reference reference refers)

blob_led : (repo : RepoName) (digest : Digest) → IsRepo repo → IsWhole digest
    → IsWay (path_of (path_text (within repo kind.Blobs (text_of_digest digest)))) (within repo kind.Blobs (text_of_digest digest))
blob_led repo digest is whole = within_leads repo kind.Blobs (text_of_digest digest) is (part_digest digest whole)

ping_led : IsLed route.Ping
ping_led = record { way = top []; leads = path_leads (top []) (plain_text (codes "/v2/") refl) tt; asks = refl }

catalog_led : (last : Option Text) → AreBytes last → IsLed (route.Catalog last)
catalog_led last bytes =
    let plain : ArePlain (path_text (top (codes "_catalog"))) = plain_text (codes "/v2/_catalog") refl in
    record {
      way = top (codes "_catalog");
      leads = query_leads (top (codes "_catalog")) (codes "n=1000" ++ last_text last) plain (part_text (codes "_catalog") refl);
      asks = ap (found route.Catalog) (listing_read (top (codes "_catalog")) last plain bytes);
    }

tags_led : (repo : RepoName) (last : Option Text) → IsRepo repo → AreBytes last → IsLed (route.Tags repo last)
tags_led repo last is bytes =
    let part : AreInPart (codes "list") = part_text (codes "list") refl in
    let plain : ArePlain (path_text (within repo kind.Tags (codes "list"))) = plain_within repo kind.Tags (codes "list") is part in
    let listed = listing_read (within repo kind.Tags (codes "list")) last plain bytes in
    record {
      way = within repo kind.Tags (codes "list");
      leads = query_leads (within repo kind.Tags (codes "list")) (codes "n=1000" ++ last_text last) plain part;
      asks = λ i. found tags_of (both (repo_back repo is i) (listed i));
    }

upload_led : (repo : RepoName) → IsRepo repo → IsLed (route.BeginUpload repo)
upload_led repo is = record {
  way = within repo kind.Uploads [];
  leads = within_leads repo kind.Uploads [] is tt;
  asks = ap (found route.BeginUpload) (repo_back repo is);
}

ending_led : (at : Text) (digest : Digest) → IsSession at → IsWhole digest → values_of (codes "digest") (query_of at) ≡ []
    → IsLed (route.EndUpload at digest)
ending_led at digest is whole none =
    let ends = ending_is at digest none in
    let target = target_text (route.EndUpload at digest) in
    let place : place_within (repo_named is.repo) (without (codes "digest") target) ≡ Some at =
    placed is.repo (without (codes "digest") target) is.name is.named ∙ ap (λ (t : Text). Some t) ends.place in
    let digests = digest_asked_back at digest target whole (small_digest digest whole) ends in
    record {
      way = within is.repo kind.Uploads is.key;
      leads = subst (λ (path : Text). IsWay path (within is.repo kind.Uploads is.key)) (sym ends.path) is.leads;
      asks = keyed verb.Put is.repo is.key target is.some ∙ (λ i. found ending_of (both (place i) (digests i)));
    }

chunk_led : (at : Text) → IsSession at → IsLed (route.Chunk at)
chunk_led at is = record {
  way = within is.repo kind.Uploads is.key;
  leads = is.leads;
  asks = keyed verb.Patch is.repo is.key at is.some ∙ ap (found route.Chunk) (placed is.repo at is.name is.named);
}

progress_led : (at : Text) → IsSession at → IsLed (route.Progress at)
progress_led at is = record {
  way = within is.repo kind.Uploads is.key;
  leads = is.leads;
  asks = keyed verb.Get is.repo is.key at is.some ∙ ap (found route.Progress) (placed is.repo at is.name is.named);
}

led : (asks : Route) → IsFit asks → IsLed asks
led route.Ping fit = ping_led
led (route.Catalog last) fit = catalog_led last fit
led (route.Tags repo last) fit = tags_led repo last fit.0 fit.1
led (route.HeadManifest repo reference) fit = record {
  way = within repo kind.Manifests (text_of_reference reference);
  leads = manifest_led repo reference fit.0 fit.1;
  asks = ap (found (on route.HeadManifest)) (manifest_back repo reference fit.0 fit.1);
}
led (route.GetManifest repo reference) fit = record {
  way = within repo kind.Manifests (text_of_reference reference);
  leads = manifest_led repo reference fit.0 fit.1;
  asks = ap (found (on route.GetManifest)) (manifest_back repo reference fit.0 fit.1);
}
led (route.HeadBlob repo digest) fit = record {
  way = within repo kind.Blobs (text_of_digest digest);
  leads = blob_led repo digest fit.0 fit.1;
  asks = ap (found (on route.HeadBlob)) (blob_back repo digest fit.0 fit.1);
}
led (route.GetBlob repo digest) fit = record {
  way = within repo kind.Blobs (text_of_digest digest);
  leads = blob_led repo digest fit.0 fit.1;
  asks = ap (found (on route.GetBlob)) (blob_back repo digest fit.0 fit.1);
}
led (route.BeginUpload repo) fit = upload_led repo fit
led (route.EndUpload at digest) fit = ending_led at digest fit.0 fit.1 fit.2
led (route.PutManifest repo reference) fit = record {
  way = within repo kind.Manifests (text_of_reference reference);
  leads = manifest_led repo reference fit.0 fit.1;
  asks = ap (found (on route.PutManifest)) (manifest_back repo reference fit.0 fit.1);
}
led (route.Chunk at) fit = chunk_led at fit
led (route.Progress at) fit = progress_led at fit

pub read_back : (asks : Route) (answer : Result Route NoRoute) → IsFit asks → IsRouteOf (verb_of asks) (target_text asks) answer → Answers (Ok asks) answer
read_back asks answer fit (inl read) =
    let is = led asks fit in
    let same = same_way (path_of (target_text asks)) read.way is.way read.leads is.leads in
    subst (λ (r : Result Route ℕ). Answers r answer)
    (ap (λ (way : Way). asked (verb_of asks) way (target_text asks)) same ∙ is.asks) read.answers
read_back asks answer fit (inr unknown) = absurd (unknown.none (led asks fit).way (led asks fit).leads)
