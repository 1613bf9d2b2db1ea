-- Names whose RDNs an octet counts (X.518, section 10.5: nextRDNToBeResolved): all pins that an agent knows, and the
-- entries of its NSSRs, which a reference may lead one RDN past. A name has 16 RDNs at most in the world of a file.
use Rattle.std.specs.Prelude.{◌≡◌, ℕ, nat_le, Bool, true, ◌&&◌, List, length}
use Rattle.std.specs.List.{list_all}
use Rattle.x5_model.specs.Values.{Name}
use Rattle.x5_model.specs.Requests.{Request}
use Rattle.x5_model_tree.specs.World.{Specific, Nssr, World}
use Rattle.x5_model_tree.specs.Described.{IsDescribed}
use Rattle.x5_model_run.specs.Holdings.{Held, Copy, Holdings}
use Rattle.x5_model_serve.specs.Committed.{committed}
use Rattle.x5_model_held.specs.Beginning.{holdings_described}

-- an octet counts its RDNs and one more
abbrev pub is_counted : Name → Bool
is_counted n = nat_le (length n) 254

-- subordinate or cross references
abbrev pub references_counted : List Specific → Bool
references_counted ks = list_all (λ k. is_counted k.pin) ks

abbrev pub nssrs_counted : List Nssr → Bool
nssrs_counted nssrs = list_all (λ x. is_counted x.at) nssrs

-- a context prefix, and the knowledge that goes with the context
abbrev pub context_counted : Held → Bool
context_counted c = is_counted c.prefix && (references_counted c.subordinate && nssrs_counted c.nssrs)

abbrev pub copy_counted : Copy → Bool
copy_counted c = context_counted c.held

-- all that an agent knows
abbrev pub holdings_counted : Holdings → Bool
holdings_counted h =
    list_all context_counted h.own
    && (list_all copy_counted h.copies && (references_counted h.root && references_counted h.cross))

-- 4. It is so of every world that a file describes.
abbrev pub DescribedCounted : Type 0
DescribedCounted = (w : World) (me : ℕ) → IsDescribed w → holdings_counted (holdings_described w me) ≡ true

-- An update changes none of it.
abbrev pub CountedStays : Type 0
CountedStays = (r : Request) (h : Holdings) → holdings_counted (committed r h) ≡ holdings_counted h
