-- A reference's target and exclusions are carried as they are; the request asks for the target; and the trace, which is
-- shorter than 128 items, has the agent's own item more.
use Rattle.std.proofs.Common.{◌≡◌, ℕ, ◌-◌, ◌<◌, Bool, true, false, nat_le, [], ◌∷◌, length, arith, length-append, if◌then◌else◌}
use Rattle.std.proofs.lemmas.Bool.{leb-false}
use Rattle.x5_model.specs.Values.{Name}
use Rattle.x5_model.specs.Requests.{Body, Read, Compare, ListBelow, Search, AddEntry, RemoveEntry, ModifyEntry, ModifyDn, Request}
use Rattle.x5_model.specs.References.{Reference, Chained}
use Rattle.x5_model_run.specs.Journal.{item_of, is_wide}
use Rattle.x5_model_run.specs.Needs.{target_of}
use Rattle.x5_model_run.specs.Chain.{probe_request, is_probe, part_body, part_request, asks_part, request_for, is_user}
use Rattle.x5_model_fitting.specs.Names.{RdnWithin, NameWithin}
use Rattle.x5_model_fitting.specs.Requests.{BodyWithin, RequestWithin}
use Rattle.x5_model_fitting.proofs.Kept.{beginning_within}
use Rattle.x5_model_limits.specs.Messages.{BoundedItem, BoundedMessage}
use Rattle.x5_model_limits.specs.Laws.{CarriedBounded, OpeningBounded}
use Rattle.x5_model_limits.proofs.Lists.{each_none, each_one, each_both}

part_within : (wide : Bool) (base : Name) (b : Body) → NameWithin base → BodyWithin b
    → BodyWithin (part_body wide base b)
part_within wide base (Read name selection) t w = w
part_within wide base (Compare name assertion) t w = w
part_within wide base (ListBelow name) t w = t
part_within wide base (Search old subset f selection) t w = (t, w.1, w.2)
part_within wide base (AddEntry name attributes) t w = w
part_within wide base (RemoveEntry name) t w = w
part_within wide base (ModifyEntry name changes) t w = w
part_within wide base (ModifyDn name rdn drops) t w = w

probe_within : (name : Name) → NameWithin name → RequestWithin (probe_request name)
probe_within name t = record { controls = tt; body = (t, λ x i. elim i [ ]) }

request_within : (by_user : Bool) (asked : Request) (target : Name) (r : Reference) → RequestWithin asked
    → NameWithin target → RequestWithin (request_for by_user asked target r)
request_within by_user asked target r w t = by (is_probe asked.body target) (asks_part r)
  where
    by : (probe part : Bool) → RequestWithin (if probe then probe_request target
        else (if part then part_request by_user (is_wide r.kind) target asked else asked))
    by true part = probe_within target t
    by false true = record { controls = tt; body = part_within (is_wide r.kind) target asked.body t w.body }
    by false false = w

pub item_within : (a : ℕ) (m : Chained) → BoundedMessage m → BoundedItem (item_of a m)
item_within a m w = record { target = w.target; progress = w.progress }

shorter : (n : ℕ) → nat_le 128 n ≡ false → n < 128
shorter n e = leb-false 128 n e

pub carried_bounded : CarriedBounded
carried_bounded from o r w reference short =
    let less : length o.message.trace < 128 = shorter (length o.message.trace) short in
    record {
      target = reference.target;
      progress = reference.progress;
      exclusions = reference.exclusions;
      few = omega (arith, less, length-append o.message.trace (item_of o.receiver o.message ∷ []));
      items = each_both BoundedItem o.message.trace (item_of o.receiver o.message ∷ []) w.items
          (each_one BoundedItem (item_of o.receiver o.message) (item_within o.receiver o.message w));
      request = request_within (is_user from) o.message.request r.target r w.request reference.target;
    }

-- ---- what a user asks

target_within : (b : Body) → BodyWithin b → NameWithin (target_of b)
target_within (Read name selection) w = w.0
target_within (Compare name assertion) w = w.0
target_within (ListBelow name) w = w
target_within (Search base subset f selection) w = w.0
target_within (AddEntry name attributes) w = beginning_within (length name - 1) name w.0
target_within (RemoveEntry name) w = w
target_within (ModifyEntry name changes) w = w.0
target_within (ModifyDn name rdn drops) w = w.0

pub opening_bounded : OpeningBounded
opening_bounded r w = record {
  target = target_within r.body w.body;
  progress = tt;
  exclusions = each_none RdnWithin;
  few = omega arith;
  items = each_none BoundedItem;
  request = w;
}
