-- What a refresh is to the consumer whose agreement it is by: where its supplier has the context from, and from where an
-- incremental one goes on. And what is counted of a context at its master and at a consumer.
use Rattle.std.specs.List.{find}
use Rattle.std.proofs.Common.{◌≡◌, ℕ, ◌+◌, ◌==◌, Bool, true, false, if◌then◌else◌, nat_lt, ◌⊎◌, inl, inr, List, [], ◌∷◌, ◌++◌, map, length, refl, sym, ap, subst, ◌∙◌, Option, Some, None}
use Rattle.x5_model.specs.Words.{in_option, when}
use Rattle.x5_model.specs.Members.{In}
use Rattle.x5_model.specs.Keys.{Key}
use Rattle.x5_model.specs.Values.{key_of}
use Rattle.x5_model.proofs.Lists.{of_find, once_map, true_or_false}
use Rattle.x5_model.proofs.Decide.{nat_same_decides, once_decides}
use Rattle.x5_model_tree.specs.World.{Agreement, World}
use Rattle.x5_model_tree.specs.Masters.{masters, pins}
use Rattle.x5_model_tree.specs.Described.{IsDescribed}
use Rattle.x5_model_run.specs.History.{Refreshed, Deed, Nothing, Outs, Loses, Accepts, Refreshes, Splits, Unsplits, Did, Point, knowledge_by, refresh_of, refreshes_of, as_of}
use Rattle.x5_model_run.specs.Refresh.{Changes, updates_in, steps_since, consumed_by, changes_at, base_of, later_than, supplied}
use Rattle.x5_model_refreshed.specs.Logs.{Log, brought, log_after, logs_by}
use Rattle.x5_model_refreshed.specs.Replaying.{Happens, AllHappen, GoesOn, IsBrought}
use Rattle.x5_model_refreshed.proofs.Leading.{at_line, knowledge_stays}

pub some_agreement : (g h : Agreement) → Some g ≡ Some h → g ≡ h
some_agreement g h e = cc

-- ---- what is counted

module _ (w : World) (past : List Did) (h : AllHappen w past) (a : ℕ) (pin : Key) where
  abbrev counts_if : Bool → World → Option Agreement → Changes
  counts_if b k o =
      if b then record { origin = 0; moments = updates_in (pins k) past pin }
      else in_option (record { origin = 0; moments = [] }) (λ (g : Agreement). steps_since (refreshes_of past g.number)) o

  -- by the knowledge of the described world
  changes_are : (b : Bool) (o : Option Agreement) → masters w a pin ≡ b → consumed_by w a pin ≡ o
      → changes_at (at_line w past) a pin ≡ counts_if b w o
  changes_are b o e c =
      ap (λ (k : World). counts_if (masters k a pin) k (consumed_by k a pin)) (knowledge_stays w past h)
      ∙ ap (λ (x : Bool). counts_if x w (consumed_by w a pin)) e
      ∙ ap (counts_if b w) c

  pub changes_master : masters w a pin ≡ true → changes_at (at_line w past) a pin ≡ record { origin = 0; moments = updates_in (pins w) past pin }
  changes_master e = changes_are true (consumed_by w a pin) e refl

  pub changes_consumer : (g : Agreement) → masters w a pin ≡ false → consumed_by w a pin ≡ Some g
      → changes_at (at_line w past) a pin ≡ steps_since (refreshes_of past g.number)
  changes_consumer g e c = changes_are false (Some g) e c

  pub changes_none : masters w a pin ≡ false → consumed_by w a pin ≡ None → changes_at (at_line w past) a pin ≡ record { origin = 0; moments = [] }
  changes_none e c = changes_are false None e c

-- ---- where a refresh is from

-- the master at the line's moment, or a consumer at its own copy's
abbrev pub Source : World → List Did → Key → Agreement → Refreshed → Type 0
Source w before pin g f =
    ((masters w g.supplier pin ≡ true) × (f.stamp ≡ length before + 1))
    ⊎ ((masters w g.supplier pin ≡ false)
    × ((own : Agreement) × (consumed_by w g.supplier pin ≡ Some own) × (as_of (at_line w before) own.number ≡ Some f.stamp)))

abbrev pub Since : World → List Did → Key → Agreement → Refreshed → Type 0
Since w before pin g f =
    (from : ℕ) × (as_of (at_line w before) g.number ≡ Some from)
    × (nat_lt from (base_of (changes_at (at_line w before) g.supplier pin)) ≡ false)
    × (f.count ≡ later_than from (changes_at (at_line w before) g.supplier pin))

module _ (w : World) (described : IsDescribed w) (before : List Did) (h : AllHappen w before) (f : Refreshed) (is : IsBrought (at_line w before) f) where
  abbrev p : Point
  p = at_line w before

  -- the agreement of the number is one
  pub one_agreement : (g : Agreement) → In g w.agreements → f.agreement ≡ g.number → is.agreement ≡ g
  one_agreement g i e =
      let v = of_find (λ (x : Agreement). x.number == f.agreement) is.agreement w.agreements
      (ap (λ (k : World). find (λ (x : Agreement). x.number == f.agreement) k.agreements) (sym (knowledge_stays w before h)) ∙ is.found) in
      once_map (λ (x : Agreement). x.number) w.agreements is.agreement g
      ((once_decides ◌==◌ nat_same_decides (map (λ (x : Agreement). x.number) w.agreements)).0 described.numbers_apart)
      v.0 i ((nat_same_decides is.agreement.number f.agreement).0 v.1 ∙ e)

  some_stamp : (x y : ℕ) → Some x ≡ Some y → x ≡ y
  some_stamp x y e = cc

  abbrev supply_if : Bool → Option Agreement → Option ℕ
  supply_if b o = if b then Some (length before + 1) else in_option None (λ (own : Agreement). as_of p own.number) o

  source_by : (pin : Key) (g : Agreement) (b : Bool) (o : Option Agreement) → masters w g.supplier pin ≡ b → consumed_by w g.supplier pin ≡ o
      → supply_if b o ≡ Some f.stamp → Source w before pin g f
  source_by pin g true o e c q = inl (e, sym (some_stamp (length before + 1) f.stamp q))
  source_by pin g false None e c q = cc
  source_by pin g false (Some own) e c q = inr (e, (own, c, q))

  pub source : (pin : Key) (g : Agreement) → In g w.agreements → f.agreement ≡ g.number → key_of g.context ≡ pin → Source w before pin g f
  source pin g i e q =
      source_by pin g (masters w g.supplier pin) (consumed_by w g.supplier pin) refl refl
      (sym (ap (λ (k : World). supply_if (masters k g.supplier pin) (consumed_by k g.supplier pin)) (knowledge_stays w before h))
      ∙ sym (ap (λ (x : Key). supply_if (masters (knowledge_by w before) g.supplier x) (consumed_by (knowledge_by w before) g.supplier x)) q)
      ∙ sym (ap (λ (x : Agreement). supplied p x) (one_agreement g i e))
      ∙ is.stamp)

  pub since : (pin : Key) (g : Agreement) → In g w.agreements → f.agreement ≡ g.number → key_of g.context ≡ pin → f.total ≡ false
      → Since w before pin g f
  since pin g i e q t =
      let s : GoesOn p g f = subst (λ (x : Agreement). GoesOn p x f) (one_agreement g i e) (is.since t) in
      subst (λ (x : Key). Since w before x g f) q (s.from, s.last, s.known, s.count)

-- ---- what a line changes of a consumer's log

abbrev pub IsByIt : World → List Did → ℕ → Key → Agreement → Deed → Refreshed → Type 0
IsByIt w before a pin g x f =
    (x ≡ Refreshes f) × (f.agreement ≡ g.number)
    × (log_after w before (logs_by w before) x a pin ≡ brought f (as_of (at_line w before) g.number) (logs_by w before a pin) (logs_by w before g.supplier pin))
    × (refresh_of x g.number ++ refreshes_of before g.number ≡ f ∷ refreshes_of before g.number)

abbrev pub Change : World → List Did → ℕ → Key → Agreement → Deed → Type 0
Change w before a pin g x =
    ((log_after w before (logs_by w before) x a pin ≡ logs_by w before a pin)
    × (refresh_of x g.number ++ refreshes_of before g.number ≡ refreshes_of before g.number))
    ⊎ ((f : Refreshed) × IsByIt w before a pin g x f)

module _ (w : World) (before : List Did) (h : AllHappen w before) (a : ℕ) (pin : Key) (g : Agreement)
    (other : masters w a pin ≡ false) (mine : consumed_by w a pin ≡ Some g) where
  abbrev own : Log
  own = logs_by w before a pin

  abbrev last : Agreement → Option ℕ
  last x = as_of (at_line w before) x.number

  abbrev new_if : Refreshed → Bool → Option Agreement → Log
  new_if f b o =
      if b then own
      else in_option own (λ (x : Agreement). if f.agreement == x.number then brought f (last x) own (logs_by w before x.supplier pin) else own) o

  not_master : masters (knowledge_by w before) a pin ≡ false
  not_master = ap (λ (k : World). masters k a pin) (knowledge_stays w before h) ∙ other

  pub refreshed : (f : Refreshed) → log_after w before (logs_by w before) (Refreshes f) a pin
      ≡ (if f.agreement == g.number then brought f (last g) own (logs_by w before g.supplier pin) else own)
  refreshed f =
      ap (λ (k : World). new_if f (masters k a pin) (consumed_by k a pin)) (knowledge_stays w before h)
      ∙ ap (λ (b : Bool). new_if f b (consumed_by w a pin)) other
      ∙ ap (new_if f false) mine

  pub change : (x : Deed) → Happens (at_line w before) x → Change w before a pin g x
  change Nothing m = inl (refl, refl)
  change (Outs o) m = inl (refl, refl)
  change (Loses reply k) m = inl (refl, refl)
  change (Accepts accepted) m = inl (rw not_master refl, refl)
  change (Splits name to) m = absurd m
  change (Unsplits name) m = absurd m
  change (Refreshes f) m = elim (true_or_false (f.agreement == g.number)) [
    | inl e ↦ inr (
      f,
      (
        refl,
        (nat_same_decides f.agreement g.number).0 e,
        refreshed f ∙ ap (λ (b : Bool). if b then brought f (last g) own (logs_by w before g.supplier pin) else own) e,
        ap (λ (b : Bool). when b f ++ refreshes_of before g.number) e,
      ),
    )
    | inr e ↦ inl (
      refreshed f ∙ ap (λ (b : Bool). if b then brought f (last g) own (logs_by w before g.supplier pin) else own) e,
      ap (λ (b : Bool). when b f ++ refreshes_of before g.number) e,
    )
  ]

-- who neither masters nor consumes a context keeps no log of it
pub no_log : (w : World) (past : List Did) (a : ℕ) (pin : Key) → AllHappen w past → masters w a pin ≡ false → consumed_by w a pin ≡ None
    → logs_by w past a pin ≡ []
no_log w [] a pin h other none = refl
no_log w (d ∷ before) a pin h other none =
    by d.deed h.0 (ap (λ (k : World). masters k a pin) (knowledge_stays w before h.1) ∙ other)
    (ap (λ (k : World). consumed_by k a pin) (knowledge_stays w before h.1) ∙ none)
    ∙ no_log w before a pin h.1 other none
  where
    by : (x : Deed) → Happens (at_line w before) x → masters (knowledge_by w before) a pin ≡ false
        → consumed_by (knowledge_by w before) a pin ≡ None → log_after w before (logs_by w before) x a pin ≡ logs_by w before a pin
    by Nothing m e c = refl
    by (Outs o) m e c = refl
    by (Loses reply j) m e c = refl
    by (Accepts accepted) m e c = rw e refl
    by (Refreshes f) m e c = rw e (rw c refl)
    by (Splits name to) m e c = absurd m
    by (Unsplits name) m e c = absurd m
