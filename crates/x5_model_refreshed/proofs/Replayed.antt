-- The laws of logs, at a line of a run.
use Rattle.std.proofs.Common.{◌≡◌, ℕ, inl, inr, reverse, sym, ap, subst, ◌∙◌}
use Rattle.x5_model.proofs.Lists.{true_or_false}
use Rattle.x5_model.specs.Keys.{Key}
use Rattle.x5_model_tree.specs.World.{World}
use Rattle.x5_model_tree.specs.Masters.{masters, pins}
use Rattle.x5_model_run.specs.History.{Point, refreshes_of}
use Rattle.x5_model_run.specs.Refresh.{Changes, consumed_by, changes_at}
use Rattle.x5_model_updates.proofs.Outcomes.{none_or_some}
use Rattle.x5_model_refreshed.specs.Logs.{moments_of, log_at}
use Rattle.x5_model_refreshed.specs.Replaying.{IsLed, LogCounts, MasterReplays, ConsumerReplays, LastAreLater}
use Rattle.x5_model_refreshed.proofs.Leading.{knowledge_stays}
use Rattle.x5_model_refreshed.proofs.Supplying.{changes_master, changes_consumer, changes_none, no_log}
use Rattle.x5_model_refreshed.proofs.Mastering.{counted, replays}
use Rattle.x5_model_refreshed.proofs.Consuming.{all_kept}
use Rattle.x5_model_refreshed.proofs.Lasting.{Down, updates_fall, changes_fall, last_have_all}

pub log_counts : LogCounts
log_counts p a pin led = elim (true_or_false (masters p.described a pin)) [
  | inl m ↦
      counted p.described led.described led.consistent a pin m p.past led.happened
      ∙ back (sym (changes_master p.described p.past led.happened a pin m))
  | inr o ↦ elim (none_or_some (consumed_by p.described a pin)) [
    | inl c ↦
        ap moments_of (no_log p.described p.past a pin led.happened o c)
        ∙ back (sym (changes_none p.described p.past led.happened a pin o c))
    | inr g ↦
        (all_kept p.described led.described led.consistent p.past led.happened a pin g.0 o g.1).moments
        ∙ back (sym (changes_consumer p.described p.past led.happened a pin g.0 o g.1))
  ]
]
  where
    back : {x y : Changes} → x ≡ y → reverse x.moments ≡ reverse y.moments
    back e = ap (λ (c : Changes). reverse c.moments) e

pub master_replays : MasterReplays
master_replays p a m pin led mine l =
    replays p.described led.described led.consistent a pin
    (ap (λ (x : World). masters x a pin) (sym (knowledge_stays p.described p.past led.happened)) ∙ mine) p.past m led.happened l

pub consumer_replays : ConsumerReplays
consumer_replays p a m stamp pin g led other mine at i =
    let same = sym (knowledge_stays p.described p.past led.happened) in
    (all_kept p.described led.described led.consistent p.past led.happened a pin g
    (ap (λ (x : World). masters x a pin) same ∙ other) (ap (λ (x : World). consumed_by x a pin) same ∙ mine)).replays m stamp at i

-- what is counted falls
pub changes_down : (p : Point) (a : ℕ) (pin : Key) → IsLed p → Down (changes_at p a pin).moments
changes_down p a pin led =
    elim (true_or_false (masters p.described a pin)) [
      | inl b ↦ falls_as (changes_master p.described p.past led.happened a pin b) (updates_fall (pins p.described) p.past pin)
      | inr o ↦ elim (none_or_some (consumed_by p.described a pin)) [
        | inl c ↦ falls_as (changes_none p.described p.past led.happened a pin o c) tt
        | inr g ↦ falls_as (changes_consumer p.described p.past led.happened a pin g.0 o g.1)
            (changes_fall (refreshes_of p.past g.0.number) (all_kept p.described led.described led.consistent p.past led.happened a pin g.0 o g.1).falls)
      ]
    ]
  where
    falls_as : {x y : Changes} → x ≡ y → Down y.moments → Down x.moments
    falls_as e d = subst (λ (c : Changes). Down c.moments) (sym e) d

pub last_are_later : LastAreLater
last_are_later p a m pin led known =
    last_have_all m (log_at p a pin) (changes_at p a pin) (log_counts p a pin led) (changes_down p a pin led) known
