-- How the log of a context grows: by cases of what a line did, and what is kept of it as lists.
use Rattle.std.proofs.Common.{◌≡◌, ℕ, zero, suc, ◌+◌, ◌-◌, ◌<◌, ◌≤◌, Bool, true, false, if◌then◌else◌, nat_lt, nat_le, inl, inr, List, [], ◌∷◌, ◌++◌, length, map, take, drop, reverse, refl, sym, ap, ◌∙◌, arith, Option, Some}
use Rattle.std.specs.Prelude.{slice_index}
use Rattle.std.proofs.lemmas.List.{length-map, length-drop, length-append, length-reverse, drop-append-le, drop_all, take-append-drop, map-append, reverse-append, reverse-reverse}
use Rattle.std.proofs.lemmas.Grind.{reverse_onto}
use Rattle.x5_model.specs.Words.{first_of, in_option}
use Rattle.x5_model.specs.Keys.{Key}
use Rattle.x5_model.proofs.Lists.{true_or_false}
use Rattle.x5_model_tree.specs.Tree.{part}
use Rattle.x5_model_tree.specs.Masters.{masters, pins}
use Rattle.x5_model_run.specs.History.{Acceptance, Nothing, Outs, Loses, Accepts, Refreshes, Splits, Unsplits, Point, moment_of, knowledge_at, tree_at, refreshes_of}
use Rattle.x5_model_run.specs.Refresh.{Changes, is_change_in, updates_in, steps_since, consumed_by, changes_at, base_of}
use Rattle.x5_model_refreshed.specs.Steps.{Step, step_of}
use Rattle.x5_model_refreshed.specs.Logs.{Log, moments_of, log_at}
use Rattle.x5_model_refreshed.specs.Replaying.{last_256}
use Rattle.x5_model_refreshed.specs.Growing.{after_deed, IsLogOf, IsLogMore, QuietLogsStay, UpdateIsNoted, NoOtherNotes, KeptGrows}
use Rattle.x5_model_refreshed.proofs.Listing.{less_true, less_false, nothing_more}

-- ---- what a line adds

pub quiet_logs_stay : QuietLogsStay
quiet_logs_stay p Nothing sent a pin q = record { log = refl; changes = refl }
quiet_logs_stay p (Outs o) sent a pin q = record { log = refl; changes = refl }
quiet_logs_stay p (Loses reply k) sent a pin q = record { log = refl; changes = refl }
quiet_logs_stay p (Accepts accepted) sent a pin q = absurd q
quiet_logs_stay p (Refreshes f) sent a pin q = absurd q
quiet_logs_stay p (Splits name o) sent a pin q = absurd q
quiet_logs_stay p (Unsplits name) sent a pin q = absurd q

module _ (p : Point) (x : Acceptance) (sent a : ℕ) (pin : Key) where
  abbrev next : Point
  next = after_deed p (Accepts (x ∷ [])) sent

  abbrev mine : Bool
  mine = masters (knowledge_at p) a pin

  abbrev inside : Bool
  inside = is_change_in (pins (knowledge_at p)) pin x

  abbrev told : Option Step
  told = step_of (part (tree_at p) pin) x.request.body

  abbrev one : Bool → Option Step → Log
  one b o = (if b then in_option [] (λ s. (moment_of p, s) ∷ []) o else []) ++ []

  -- the log and what is counted of it, by whether the context is the agent's, and whether the update is in it
  abbrev log_by : Bool → Log → Log
  log_by b more = if b then log_at p a pin ++ more else log_at p a pin

  abbrev moments_by : Bool → List ℕ
  moments_by b = map (λ y. moment_of p) (if b then x ∷ [] else []) ++ updates_in (pins (knowledge_at p)) p.past pin

  abbrev changes_by : Bool → List ℕ → Changes
  changes_by b moments =
      if b then record { origin = 0; moments = moments }
      else in_option (record { origin = 0; moments = [] }) (λ g. steps_since (refreshes_of p.past g.number))
      (consumed_by (knowledge_at p) a pin)

  log_is : log_at next a pin ≡ log_by mine (one inside told)
  log_is = refl

  changes_are : changes_at next a pin ≡ changes_by mine (moments_by inside)
  changes_are = refl

  changes_were : changes_at p a pin ≡ changes_by mine (updates_in (pins (knowledge_at p)) p.past pin)
  changes_were = refl

  noted_here : (s : Step) → mine ≡ true → inside ≡ true → told ≡ Some s → IsLogMore p next a pin s
  noted_here s m i t =
      let before : changes_at p a pin ≡ changes_by true (updates_in (pins (knowledge_at p)) p.past pin) =
      ap (λ (b : Bool). changes_by b (updates_in (pins (knowledge_at p)) p.past pin)) m in
      record {
        log = (λ k. log_by (m k) (one (i k) (t k)));
        changes = (λ k. changes_by (m k) (moments_by (i k)))
            ∙ sym (ap (λ (c : Changes). record c { moments = moment_of p ∷ c.moments }) before);
      }

  not_by : mine ≡ false → IsLogOf p next a pin
  not_by m = record {
    log = ap (λ (b : Bool). log_by b (one inside told)) m;
    changes = ap (λ (b : Bool). changes_by b (moments_by inside)) m
        ∙ sym (ap (λ (b : Bool). changes_by b (updates_in (pins (knowledge_at p)) p.past pin)) m);
  }

  same_log : (b : Bool) → log_by b [] ≡ log_at p a pin
  same_log true = nothing_more (log_at p a pin)
  same_log false = refl

  not_in : inside ≡ false → IsLogOf p next a pin
  not_in i = record {
    log = ap (λ (b : Bool). log_by mine (one b told)) i ∙ same_log mine;
    changes = ap (λ (b : Bool). changes_by mine (moments_by b)) i;
  }

pub update_is_noted : UpdateIsNoted
update_is_noted p x sent a pin s m i t = noted_here p x sent a pin s m i t

pub no_other_notes : NoOtherNotes
no_other_notes p x sent a pin (inl m) = not_by p x sent a pin m
no_other_notes p x sent a pin (inr i) = not_in p x sent a pin i

-- ---- what is kept

drop_twice : {A : Type 0} (m n : ℕ) (xs : List A) → drop m (drop n xs) ≡ drop (n + m) xs
drop_twice {A} m n [] =
    ap (λ (ys : List A). drop m ys) (drop_all n [] (omega arith)) ∙ drop_all m [] (omega arith)
    ∙ sym (drop_all (n + m) [] (omega arith))
drop_twice m zero (x ∷ xs) = let z : m ≡ zero + m = omega arith in ap (λ (k : ℕ). drop k (x ∷ xs)) z
drop_twice m (suc n) (x ∷ xs) =
    let z : suc (n + m) ≡ suc n + m = omega arith in drop_twice m n xs ∙ ap (λ (k : ℕ). drop k (x ∷ xs)) z

at_seam : (xs : List ℕ) (y : ℕ) (zs : List ℕ) → slice_index (xs ++ y ∷ zs) (length xs) ≡ y
at_seam [] y zs = refl
at_seam (x ∷ xs) y zs = at_seam xs y zs

module _ (log : Log) (c : Changes) (m : ℕ) (s : Step) (is : moments_of log ≡ reverse c.moments) where
  as_many : length log ≡ length c.moments
  as_many = sym (length-map log (λ (x : ℕ × Step). x.0)) ∙ ap length is ∙ length-reverse c.moments

  kept_many : length (last_256 log) ≡ length log - (length log - 256)
  kept_many = length-drop (length log - 256) log

  one_longer : length (log ++ (m, s) ∷ []) ≡ length log + 1
  one_longer = length-append log ((m, s) ∷ [])

  last_more : last_256 (log ++ (m, s) ∷ []) ≡ drop (length (last_256 log) - 255) (last_256 log) ++ (m, s) ∷ []
  last_more =
      let k : length (log ++ (m, s) ∷ []) - 256 ≡ length log - 255 = (let e = one_longer in omega (arith, e)) in
      let j : (length log - 256) + (length (last_256 log) - 255) ≡ length log - 255 =
      (let e = kept_many in omega (arith, e)) in
      ap (λ (n : ℕ). drop n (log ++ (m, s) ∷ [])) k
      ∙ drop-append-le (length log - 255) log ((m, s) ∷ []) (omega arith)
      ∙ ap (λ (n : ℕ). drop n log ++ (m, s) ∷ []) (sym j)
      ∙ ap (λ (l : Log). l ++ (m, s) ∷ []) (sym (drop_twice (length (last_256 log) - 255) (length log - 256) log))

  -- the oldest of 256 is the one that is followed by 255
  oldest : (z : ℕ × Step) (rest : Log) → drop (length log - 256) log ≡ z ∷ rest → length rest ≡ 255
      → slice_index c.moments 255 ≡ z.0
  oldest z rest e l =
      let before : Log = take (length log - 256) log in
      let whole : log ≡ before ++ z ∷ rest =
      sym (take-append-drop (length log - 256) log) ∙ ap (λ (ys : Log). before ++ ys) e in
      let ms : c.moments ≡ reverse (moments_of rest) ++ z.0 ∷ reverse (moments_of before) =
      sym (reverse-reverse c.moments) ∙ ap reverse (sym is) ∙ ap (λ (x : Log). reverse (moments_of x)) whole
      ∙ ap reverse (map-append (λ (x : ℕ × Step). x.0) before (z ∷ rest))
      ∙ reverse-append (moments_of before) (z.0 ∷ moments_of rest)
      ∙ ap (λ (ys : List ℕ). ys ++ reverse (moments_of before)) (reverse_onto (moments_of rest) z.0 [])
      ∙ joined (reverse (moments_of rest)) (z.0 ∷ []) (reverse (moments_of before)) in
      let n : length (reverse (moments_of rest)) ≡ 255 =
      length-reverse (moments_of rest) ∙ length-map rest (λ (x : ℕ × Step). x.0) ∙ l in
      ap (λ (xs : List ℕ). slice_index xs 255) ms
      ∙ ap (λ (k : ℕ). slice_index (reverse (moments_of rest) ++ z.0 ∷ reverse (moments_of before)) k) (sym n)
      ∙ at_seam (reverse (moments_of rest)) z.0 (reverse (moments_of before))
    where
      joined : (xs ys zs : List ℕ) → (xs ++ ys) ++ zs ≡ xs ++ (ys ++ zs)
      joined [] ys zs = refl
      joined (x ∷ xs) ys zs = ap (λ (l : List ℕ). x ∷ l) (joined xs ys zs)

  few_true : (k : ℕ) → k ≤ 256 → nat_le k 256 ≡ true
  few_true k l = grind arith

  many_false : (k : ℕ) → 256 < k → nat_le k 256 ≡ false
  many_false k l = grind arith

  abbrev base_by : Bool → ℕ → ℕ
  base_by b past = if b then c.origin else past

  abbrev kept_by : Bool → Log → ℕ
  kept_by b l = if b then base_of c else in_option (base_of c) (λ y. y.0) (first_of l)

  few_kept : length log < 256 → base_of (record c { moments = m ∷ c.moments }) ≡ kept_by (nat_lt (length (last_256 log)) 256) (last_256 log)
  few_kept l =
      let e = as_many in
      let f = kept_many in
      ap (λ (b : Bool). base_by b (slice_index (m ∷ c.moments) 256)) (few_true (length (m ∷ c.moments)) (omega (arith, e, l)))
      ∙ sym (ap (λ (b : Bool). base_by b (slice_index c.moments 256)) (few_true (length c.moments) (omega (arith, e, l))))
      ∙ sym (ap (λ (b : Bool). kept_by b (last_256 log)) (less_true (length (last_256 log)) 256 (omega (arith, f, l))))

  many_kept : 256 ≤ length log → (l : Log) → drop (length log - 256) log ≡ l
      → base_of (record c { moments = m ∷ c.moments }) ≡ kept_by (nat_lt (length (last_256 log)) 256) l
  many_kept h [] e = absurd (let f = kept_many in let g = ap length e in omega (arith, f, g, h))
  many_kept h (z ∷ rest) e =
      let f = kept_many in
      let n = as_many in
      let g = ap length e in
      ap (λ (b : Bool). base_by b (slice_index (m ∷ c.moments) 256)) (many_false (length (m ∷ c.moments)) (omega (arith, n, h)))
      ∙ oldest z rest e (omega (arith, f, g, h))
      ∙ sym (ap (λ (b : Bool). kept_by b (z ∷ rest)) (less_false (length (last_256 log)) 256 (omega (arith, f, h))))

  base_more : base_of (record c { moments = m ∷ c.moments }) ≡ kept_by (nat_lt (length (last_256 log)) 256) (last_256 log)
  base_more = elim (true_or_false (nat_lt (length log) 256)) [
    | inl e ↦ few_kept (grind arith)
    | inr e ↦ many_kept (grind arith) (last_256 log) refl
  ]

pub kept_grows : KeptGrows
kept_grows log c m s is = record { last = last_more log c m s is; base = base_more log c m s is }
