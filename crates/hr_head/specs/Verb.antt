-- The methods of requests that this project knows (RFC 9110, section 9; RFC 5789 for `PATCH`).
use Rattle.std.specs.Prelude.{◌≡◌, ◌≢◌, codes}
use Rattle.hr_base.specs.Bytes.{Text}
use Rattle.hr_head.specs.declared.verb.Verb.{Verb}
use Rattle.hr_head.specs.declared.verb.Verb.TheVariants.{Get, Head, Post, Put, Patch, Delete, Other}

-- the method names this verb, letter by letter
abbrev pub IsVerb : Text → Verb → Type 0
IsVerb method Get = method ≡ codes "GET"
IsVerb method Head = method ≡ codes "HEAD"
IsVerb method Post = method ≡ codes "POST"
IsVerb method Put = method ≡ codes "PUT"
IsVerb method Patch = method ≡ codes "PATCH"
IsVerb method Delete = method ≡ codes "DELETE"
IsVerb method Other =
    (method ≢ codes "GET") × (method ≢ codes "HEAD") × (method ≢ codes "POST")
    × (method ≢ codes "PUT") × (method ≢ codes "PATCH") × (method ≢ codes "DELETE")
