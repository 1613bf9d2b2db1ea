-- What a refresh does (X.525, sections 9 to 12: shadowing agreements, update strategies and the operations of the
-- directory information shadowing protocol). Refreshes are over consistent knowledge.
use Rattle.std.specs.Prelude.{ℕ, ◌+◌, Bool, true, false, not, ◌&&◌, ◌==◌, nat_lt, nat_le, if◌then◌else◌, List, [], ◌∷◌}
use Rattle.std.specs.Prelude.{◌++◌, length, map, replicate, slice_index}
use Rattle.std.specs.List.{filter, find}
use Rattle.std.specs.Option.{is_some}
use Rattle.std.specs.declared.option.Option.{Option}
use Rattle.std.specs.declared.option.Option.TheVariants.{None, Some}
use Rattle.x5_model.specs.Words.{in_option}
use Rattle.x5_model.specs.Keys.{Key}
use Rattle.x5_model.specs.Values.{key_of}
use Rattle.x5_model_tree.specs.World.{Agreement, World}
use Rattle.x5_model_tree.specs.Tree.{belongs, part}
use Rattle.x5_model_tree.specs.Masters.{masters, is_consumer, pins}
use Rattle.x5_model_tree.specs.Consistent.{first_breach}
use Rattle.x5_model_run.specs.Network.{Fate, is_unheard, is_lost, is_sent, fate_of}
use Rattle.x5_model_run.specs.Needs.{target_of}
use Rattle.x5_model_run.specs.History.{Acceptance, Refreshed, Deed, Accepts, Did, Point, moment_of, sent_before}
use Rattle.x5_model_run.specs.History.{network_at, knowledge_at, tree_of_moment, refreshes_of, as_of, acked}

-- a message of a refresh, between supplier and consumer
pub data ShadowOperation : Type 0 where
  RequestShadowUpdate : ShadowOperation
  UpdateShadow : ShadowOperation
  CoordinateShadowUpdate : ShadowOperation

pub record ShadowLine : Type 0 where
  pub sender : ℕ
  pub receiver : ℕ
  pub operation : ShadowOperation
  pub agreement : ℕ
  pub fate : Fate

-- what the line says: the refresh; that a message was not heard; a problem by its number (X.525, section 12), for
-- missedPrevious with the moments that the consumer and the supplier have; or that knowledge isn't consistent
pub data RefreshOutcome : Type 0 where
  Done : Refreshed → RefreshOutcome
  Unheard : RefreshOutcome
  Problem : ℕ → RefreshOutcome
  Missed : Option ℕ → Option ℕ → RefreshOutcome
  NotConsistent : RefreshOutcome

abbrev pub invalid_agreement_id : ℕ
invalid_agreement_id = 1

abbrev pub inactive_agreement : ℕ
inactive_agreement = 2

abbrev pub missed_previous : ℕ
missed_previous = 5

abbrev pub full_update_required : ℕ
full_update_required = 6

pub record RefreshBlock : Type 0 where
  pub lines : List ShadowLine
  pub outcome : RefreshOutcome

-- Changes that a holder of a context knows since an origin, by their moments, the newest first. For the master these
-- are all accepted updates in the context, since moment 0.
pub record Changes : Type 0 where
  pub origin : ℕ
  pub moments : List ℕ

abbrev pub is_change_in : List Key → Key → Acceptance → Bool
is_change_in pins pin a = belongs pins pin (key_of (target_of a.request.body))

abbrev pub accepted_in : Deed → List Acceptance
accepted_in (Accepts accepted) = accepted
accepted_in other = []

abbrev pub updates_in : List Key → List Did → Key → List ℕ
updates_in pins [] pin = []
updates_in pins (d ∷ before) pin =
    map (λ a. length before + 1) (filter (is_change_in pins pin) (accepted_in d.deed)) ++ updates_in pins before pin

-- For a consumer they are the steps of incremental refreshes since the last total one, each with its refresh's stamp.
abbrev pub steps_since : List Refreshed → Changes
steps_since [] = record { origin = 0; moments = [] }
steps_since (f ∷ earlier) = if f.total then record { origin = f.stamp; moments = [] } else more (steps_since earlier)
  where
    more : Changes → Changes
    more c = record c { moments = replicate f.count f.stamp ++ c.moments }

-- the agreement by which an agent consumes a context
abbrev pub consumed_by : World → ℕ → Key → Option Agreement
consumed_by w a pin = find (is_consumer a pin) w.agreements

abbrev pub changes_at : Point → ℕ → Key → Changes
changes_at p a pin =
    if masters (knowledge_at p) a pin then record {
      origin = 0;
      moments = updates_in (pins (knowledge_at p)) p.past pin;
    }
    else in_option (record { origin = 0; moments = [] }) (λ g. steps_since (refreshes_of p.past g.number))
    (consumed_by (knowledge_at p) a pin)

-- What is kept of them: the last 256. Before the base nothing is known.
abbrev pub base_of : Changes → ℕ
base_of c = if nat_le (length c.moments) 256 then c.origin else slice_index c.moments 256

abbrev pub later_than : ℕ → Changes → ℕ
later_than m c = length (filter (λ x. nat_lt m x) c.moments)

-- the moment as of which the supplier has the context: now at the master, else that of its own copy
abbrev pub supplied : Point → Agreement → Option ℕ
supplied p g =
    if masters (knowledge_at p) g.supplier (key_of g.context) then Some (moment_of p)
    else in_option None (λ own. as_of p own.number) (consumed_by (knowledge_at p) g.supplier (key_of g.context))

-- the moment from which the supplier goes on: in a pull the consumer tells its own, in a push the supplier takes the
-- last that was acknowledged
abbrev pub peer_moment : Point → Bool → Agreement → Option ℕ
peer_moment p push g = if push then acked p g.number else as_of p g.number

abbrev pub same_moment : Option ℕ → Option ℕ → Bool
same_moment None None = true
same_moment None (Some b) = false
same_moment (Some a) None = false
same_moment (Some a) (Some b) = a == b

-- an incremental refresh from there isn't possible
abbrev pub needs_total : Point → Agreement → Option ℕ → Bool
needs_total p g None = true
needs_total p g (Some m) = nat_lt m (base_of (changes_at p g.supplier (key_of g.context)))

-- how many entries or steps are sent
abbrev pub count_of : Point → Bool → Agreement → Option ℕ → ℕ → ℕ
count_of p true g peer stamp = length (part (tree_of_moment p stamp) (key_of g.context))
count_of p false g None stamp = 0
count_of p false g (Some m) stamp = later_than m (changes_at p g.supplier (key_of g.context))

-- the messages, with their fates
abbrev pub shadow_line : Point → Agreement → ℕ → ShadowOperation → ShadowLine
shadow_line p g place UpdateShadow = record {
  sender = g.supplier;
  receiver = g.consumer;
  operation = UpdateShadow;
  agreement = g.number;
  fate = fate_of (network_at p) (sent_before p.past + place) (Some g.supplier) g.consumer;
}
shadow_line p g place CoordinateShadowUpdate = record {
  sender = g.supplier;
  receiver = g.consumer;
  operation = CoordinateShadowUpdate;
  agreement = g.number;
  fate =
      fate_of (network_at p) (sent_before p.past + place) (Some g.supplier) g.consumer;
}
shadow_line p g place RequestShadowUpdate = record {
  sender = g.consumer;
  receiver = g.supplier;
  operation = RequestShadowUpdate;
  agreement = g.number;
  fate =
      fate_of (network_at p) (sent_before p.past + place) (Some g.consumer) g.supplier;
}

abbrev pub ended : List ShadowLine → RefreshOutcome → RefreshBlock
ended lines outcome = record { lines = lines; outcome = outcome }

-- the last message and what it brings: where it is lost nothing was taken; where its reply is lost the consumer has the
-- refresh, and the supplier doesn't know
abbrev pub updates_with : ShadowLine → ShadowLine → Refreshed → RefreshBlock
updates_with first last f =
    if is_lost last.fate then ended (first ∷ last ∷ []) Unheard
    else ended (first ∷ last ∷ []) (Done (record f { acknowledged = is_sent last.fate }))

abbrev pub refresh_with : Point → Bool → Bool → Agreement → ℕ → Refreshed
refresh_with p push total g stamp =
    record {
      agreement = g.number;
      total = total;
      stamp = stamp;
      count = count_of p total g (peer_moment p push g) stamp;
      acknowledged = true;
    }

-- pull: the consumer asks; then an inactive agreement, then the need of a total refresh, then the refresh
abbrev pub pull : Point → Bool → Agreement → RefreshBlock
pull p total g = by (shadow_line p g 1 RequestShadowUpdate) (supplied p g)
  where
    by : ShadowLine → Option ℕ → RefreshBlock
    by first None =
        if is_unheard first.fate then ended (first ∷ []) Unheard else ended (first ∷ []) (Problem inactive_agreement)
    by first (Some stamp) =
        if is_unheard first.fate then ended (first ∷ []) Unheard
        else (if not total && needs_total p g (peer_moment p false g)
        then ended (first ∷ []) (Problem full_update_required)
        else updates_with first (shadow_line p g 2 UpdateShadow) (refresh_with p false total g stamp))

-- push: an inactive agreement and the need of a total refresh, before any message; then the consumer is told, and
-- misses what lies between the acknowledged moment and its own; then the refresh
abbrev pub push : Point → Bool → Agreement → RefreshBlock
push p total g = by (shadow_line p g 1 CoordinateShadowUpdate) (supplied p g)
  where
    by : ShadowLine → Option ℕ → RefreshBlock
    by first None = ended [] (Problem inactive_agreement)
    by first (Some stamp) =
        if not total && needs_total p g (peer_moment p true g) then ended [] (Problem full_update_required)
        else (if is_unheard first.fate then ended (first ∷ []) Unheard
        else (if not total && not (same_moment (acked p g.number) (as_of p g.number))
        then ended (first ∷ []) (Missed (as_of p g.number) (acked p g.number))
        else updates_with first (shadow_line p g 2 UpdateShadow) (refresh_with p true total g stamp)))

-- the block of a refresh line
abbrev pub refresh_block : Point → ℕ → Bool → Bool → RefreshBlock
refresh_block p number pushes total =
    if is_some (first_breach p.described) then ended [] NotConsistent
    else by (find (λ g. g.number == number) (knowledge_at p).agreements)
  where
    by : Option Agreement → RefreshBlock
    by None = ended [] (Problem invalid_agreement_id)
    by (Some g) = if pushes then push p total g else pull p total g
