-- How logs grow by a refresh: the consumer's by what it brings, and no other; and what is kept once several changes are noted.
use Rattle.std.proofs.Common.{◌≡◌, ◌≢◌, ℕ, zero, suc, ◌==◌, Bool, true, false, if◌then◌else◌, ◌⊎◌, inl, inr, List, [], ◌∷◌, ◌++◌, length, replicate, reverse, refl, sym, ap, subst, ◌∙◌, Option, Some, None}
use Rattle.std.proofs.lemmas.List.{map-append}
use Rattle.std.proofs.lemmas.Grind.{reverse_onto}
use Rattle.x5_model.specs.Words.{in_option, when}
use Rattle.x5_model.specs.Members.{In}
use Rattle.x5_model.specs.Keys.{Key, same_key}
use Rattle.x5_model.specs.Values.{key_of}
use Rattle.x5_model.proofs.KeyLaws.{key_decides}
use Rattle.x5_model.proofs.Lists.{of_find, both_true, true_or_false}
use Rattle.x5_model.proofs.Decide.{nat_same_decides}
use Rattle.x5_model_tree.specs.World.{Agreement, World}
use Rattle.x5_model_tree.specs.Masters.{masters, pins, is_consumer}
use Rattle.x5_model_tree.specs.Conditions.{AgreementSupplies}
use Rattle.x5_model_tree.proofs.Exact.{conditions_hold}
use Rattle.x5_model_run.specs.History.{Refreshed, Did, Refreshes, Point, knowledge_at, refreshes_of, as_of}
use Rattle.x5_model_run.specs.Refresh.{Changes, updates_in, steps_since, consumed_by, changes_at, base_of}
use Rattle.x5_model_refreshed.specs.Steps.{Step}
use Rattle.x5_model_refreshed.specs.Logs.{Log, moments_of, steps_later, stamped, brought, log_at}
use Rattle.x5_model_refreshed.specs.Refreshed.{after_refresh}
use Rattle.x5_model_refreshed.specs.Replaying.{AllHappen, IsLed, IsBrought, last_256}
use Rattle.x5_model_refreshed.specs.Growing.{IsLogOf}
use Rattle.x5_model_refreshed.specs.Lengthening.{kept_more, kept_noting, base_noting, IsLogBegun, IsLogLonger, TotalBeginsLog, StepsLengthenLog, OtherLogsStay, IsKeptNoting, KeptGrowsOn}
use Rattle.x5_model_refreshed.proofs.Listing.{nothing_more}
use Rattle.x5_model_refreshed.proofs.Stamping.{as_many, since_if}
use Rattle.x5_model_refreshed.proofs.Leading.{knowledge_stays}
use Rattle.x5_model_refreshed.proofs.Supplying.{changes_consumer, one_agreement, refreshed, Since, since}
use Rattle.x5_model_refreshed.proofs.Bringing.{not_master, by_it, some_number}
use Rattle.x5_model_refreshed.proofs.Replayed.{log_counts}
use Rattle.x5_model_refreshed.proofs.Growing.{kept_grows}

-- ---- what is kept, one change after another

joined : {A : Type 0} (xs : List A) (y : A) (zs : List A) → (xs ++ y ∷ []) ++ zs ≡ xs ++ y ∷ zs
joined [] y zs = refl
joined {A} (x ∷ xs) y zs = ap (λ (l : List A). x ∷ l) (joined xs y zs)

copies_onto : (n m : ℕ) (xs : List ℕ) → replicate n m ++ m ∷ xs ≡ m ∷ replicate n m ++ xs
copies_onto zero m xs = refl
copies_onto (suc n) m xs = ap (λ (l : List ℕ). m ∷ l) (copies_onto n m xs)

pub kept_grows_on : KeptGrowsOn
kept_grows_on log c m [] is = record { last = ap last_256 (nothing_more log); base = refl }
kept_grows_on log c m (s ∷ more) is =
    let one = kept_grows log c m s is in
    let log1 : Log = log ++ (m, s) ∷ [] in
    let c1 : Changes = record c { moments = m ∷ c.moments } in
    let is1 : moments_of log1 ≡ reverse (m ∷ c.moments) =
    map-append (λ (x : ℕ × Step). x.0) log ((m, s) ∷ []) ∙ ap (λ (ns : List ℕ). ns ++ m ∷ []) is ∙ sym (reverse_onto c.moments m []) in
    let all : IsKeptNoting log1 c1 m more = kept_grows_on log1 c1 m more is1 in
    record {
      last = ap last_256 (sym (joined log (m, s) (stamped m more))) ∙ all.last
          ∙ ap (λ (l : Log). kept_noting l (stamped m more)) one.last;
      base = ap (λ (ns : List ℕ). base_of (record c { moments = ns })) (sym (copies_onto (length more) m c.moments))
          ∙ all.base
          ∙ ap (λ (l : Log). base_noting (base_of c1) l (stamped m more)) one.last
          ∙ ap (λ (b : ℕ). base_noting b (kept_more (last_256 log) (m, s)) (stamped m more)) one.base;
    }

-- ---- the consumer's log

module _ (p : Point) (f : Refreshed) (sent : ℕ) (g : Agreement) (led : IsLed p) (is : IsBrought p f)
    (i : In g (knowledge_at p).agreements) (numbered : g.number ≡ f.agreement) where
  abbrev w : World
  w = p.described

  abbrev pin : Key
  pin = key_of g.context

  abbrev did : Did
  did = record { deed = Refreshes f; sent = sent }

  here : In g w.agreements
  here = subst (λ (k : World). In g k.agreements) (knowledge_stays w p.past led.happened) i

  supplies : AgreementSupplies w g
  supplies = (conditions_hold w led.consistent).supplied g here

  other : masters w g.consumer pin ≡ false
  other = not_master w g here supplies

  mine : consumed_by w g.consumer pin ≡ Some g
  mine = by_it w g here supplies

  numbers : (f.agreement == g.number) ≡ true
  numbers = (nat_same_decides f.agreement g.number).1 (sym numbered)

  happened : AllHappen w (did ∷ p.past)
  happened = (is, led.happened)

  log_is : log_at (after_refresh p f sent) g.consumer pin
      ≡ brought f (as_of p g.number) (log_at p g.consumer pin) (log_at p g.supplier pin)
  log_is =
      refreshed w p.past led.happened g.consumer pin g other mine f
      ∙ ap (λ (b : Bool). if b then brought f (as_of p g.number) (log_at p g.consumer pin) (log_at p g.supplier pin) else log_at p g.consumer pin) numbers

  changes_were : changes_at p g.consumer pin ≡ steps_since (refreshes_of p.past g.number)
  changes_were = changes_consumer w p.past led.happened g.consumer pin g other mine

  changes_are : changes_at (after_refresh p f sent) g.consumer pin ≡ since_if f.total f (changes_at p g.consumer pin)
  changes_are =
      changes_consumer w (did ∷ p.past) happened g.consumer pin g other mine
      ∙ ap (λ (b : Bool). steps_since (when b f ++ refreshes_of p.past g.number)) numbers
      ∙ ap (since_if f.total f) (sym changes_were)

  abbrev brought_if : Bool → Option ℕ → Log
  brought_if b last =
      if b then [] else log_at p g.consumer pin ++ in_option [] (λ (m : ℕ). stamped f.stamp (steps_later m (log_at p g.supplier pin))) last

  begun : f.total ≡ true → IsLogBegun (after_refresh p f sent) g.consumer pin f.stamp
  begun t =
      let log : log_at (after_refresh p f sent) g.consumer pin ≡ [] = log_is ∙ ap (λ (b : Bool). brought_if b (as_of p g.number)) t in
      let changes : changes_at (after_refresh p f sent) g.consumer pin ≡ record { origin = f.stamp; moments = [] } =
      changes_are ∙ ap (λ (b : Bool). since_if b f (changes_at p g.consumer pin)) t in
      record { log = log; kept = ap last_256 log; changes = changes; base = ap base_of changes }

  module _ (m : ℕ) (t : f.total ≡ false) (at : as_of p g.number ≡ Some m) where
    abbrev steps : List Step
    steps = steps_later m (log_at p g.supplier pin)

    many : f.count ≡ length steps
    many =
        let go : Since w p.past pin g f = since w led.described p.past led.happened f is pin g here (sym numbered) refl t in
        let same : go.0 ≡ m = some_number go.0 m (sym go.1 ∙ at) in
        go.3 ∙ sym (as_many go.0 (log_at p g.supplier pin) (changes_at p g.supplier pin) (log_counts p g.supplier pin led))
        ∙ ap (λ (n : ℕ). length (steps_later n (log_at p g.supplier pin))) same

    longer : IsLogLonger p (after_refresh p f sent) g.consumer pin f.stamp steps
    longer =
        let log : log_at (after_refresh p f sent) g.consumer pin ≡ log_at p g.consumer pin ++ stamped f.stamp steps =
        log_is ∙ (λ k. brought_if (t k) (at k)) in
        let changes : changes_at (after_refresh p f sent) g.consumer pin
        ≡ record (changes_at p g.consumer pin) { moments = replicate (length steps) f.stamp ++ (changes_at p g.consumer pin).moments } =
        changes_are ∙ ap (λ (b : Bool). since_if b f (changes_at p g.consumer pin)) t
        ∙ ap (λ (n : ℕ). record (changes_at p g.consumer pin) { moments = replicate n f.stamp ++ (changes_at p g.consumer pin).moments }) many in
        let kept = kept_grows_on (log_at p g.consumer pin) (changes_at p g.consumer pin) f.stamp steps (log_counts p g.consumer pin led) in
        record {
          log = log;
          kept = ap last_256 log ∙ kept.last;
          changes = changes;
          base = ap base_of changes ∙ kept.base;
        }

  -- ---- other logs

  module _ (a : ℕ) (pin1 : Key) (apart : (a ≢ g.consumer) ⊎ (pin1 ≢ pin)) where
    -- nobody else has a context by the agreement
    other_number : (x : Agreement) → consumed_by (knowledge_at p) a pin1 ≡ Some x → (f.agreement == x.number) ≡ false
    other_number x e = elim (true_or_false (f.agreement == x.number)) [
      | inr n ↦ n
      | inl n ↦
          let v = of_find (is_consumer a pin1) x (knowledge_at p).agreements e in
          let there : In x w.agreements = subst (λ (k : World). In x k.agreements) (knowledge_stays w p.past led.happened) v.0 in
          let same : x ≡ g =
          sym (one_agreement w led.described p.past led.happened f is x there ((nat_same_decides f.agreement x.number).0 n))
          ∙ one_agreement w led.described p.past led.happened f is g here (sym numbered) in
          let b = both_true (x.consumer == a) (same_key (key_of x.context) pin1) v.1 in
          let mine1 : a ≡ g.consumer = sym ((nat_same_decides x.consumer a).0 b.0) ∙ ap (λ (y : Agreement). y.consumer) same in
          let pins1 : pin1 ≡ pin = sym ((key_decides (key_of x.context) pin1).0 b.1) ∙ ap (λ (y : Agreement). key_of y.context) same in
          absurd (elim apart [ inl d ↦ d mine1 | inr d ↦ d pins1 ])
    ]

    abbrev log_if : Bool → Option Agreement → Log
    log_if b o =
        if b then log_at p a pin1
        else in_option (log_at p a pin1) (λ (x : Agreement). if f.agreement == x.number then brought f (as_of p x.number) (log_at p a pin1) (log_at p x.supplier pin1) else log_at p a pin1) o

    same_log : (b : Bool) (o : Option Agreement) → ((x : Agreement) → o ≡ Some x → (f.agreement == x.number) ≡ false) → log_if b o ≡ log_at p a pin1
    same_log true o h = refl
    same_log false None h = refl
    same_log false (Some x) h =
        ap (λ (b : Bool). if b then brought f (as_of p x.number) (log_at p a pin1) (log_at p x.supplier pin1) else log_at p a pin1) (h x refl)

    abbrev changes_if : Bool → Option Agreement → List Did → Changes
    changes_if b o past =
        if b then record { origin = 0; moments = updates_in (pins (knowledge_at p)) past pin1 }
        else in_option (record { origin = 0; moments = [] }) (λ (x : Agreement). steps_since (refreshes_of past x.number)) o

    same_changes : (b : Bool) (o : Option Agreement) → ((x : Agreement) → o ≡ Some x → (f.agreement == x.number) ≡ false)
        → changes_if b o (did ∷ p.past) ≡ changes_if b o p.past
    same_changes true o h = refl
    same_changes false None h = refl
    same_changes false (Some x) h = ap (λ (b : Bool). steps_since (when b f ++ refreshes_of p.past x.number)) (h x refl)

    stays : IsLogOf p (after_refresh p f sent) a pin1
    stays = record {
      log = same_log (masters (knowledge_at p) a pin1) (consumed_by (knowledge_at p) a pin1) other_number;
      changes = same_changes (masters (knowledge_at p) a pin1) (consumed_by (knowledge_at p) a pin1) other_number;
    }

pub total_begins_log : TotalBeginsLog
total_begins_log p f sent g led is t i e = begun p f sent g led is i e t

pub steps_lengthen_log : StepsLengthenLog
steps_lengthen_log p f sent g m led is t i e at = longer p f sent g led is i e m t at

pub other_logs_stay : OtherLogsStay
other_logs_stay p f sent g a pin led is i e apart = stays p f sent g led is i e a pin apart
