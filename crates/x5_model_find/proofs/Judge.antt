-- The master of a present target finds it: the longest pin that it knows is the context's, and the lowest entry on the
-- way there is the target.
use Rattle.std.proofs.Common.{◌≡◌, ℕ, ◌<◌, ◌≤◌, Bool, true, false, not, ◌||◌, List, [], ◌∷◌, length, refl, sym, ap, subst, ◌∙◌, arith, Option, Some, None}
use Rattle.x5_model.specs.Members.{In}
use Rattle.x5_model.specs.Keys.{Key, IsPrefix}
use Rattle.x5_model.specs.Values.{key_of}
use Rattle.x5_model.specs.Entries.{Named}
use Rattle.x5_model.specs.References.{Chained}
use Rattle.x5_model.proofs.KeyLaws.{key_decides}
use Rattle.x5_model.proofs.Lists.{both_true, of_map}
use Rattle.x5_model.proofs.Prefixes.{prefix_itself, prefix_length, same_by_length}
use Rattle.x5_model_tree.specs.Tree.{key_at, lowest, part}
use Rattle.x5_model_tree.specs.Masters.{pin_of}
use Rattle.x5_model_tree.proofs.Longest.{IsLongest, IsLowest, lowest_right}
use Rattle.x5_model_run.specs.Journal.{same_name, is_done}
use Rattle.x5_model_run.specs.Holdings.{Held, Holdings, known_pin, held_at}
use Rattle.x5_model_run.specs.Needs.{target_of, resolves}
use Rattle.x5_model_run.specs.History.{knowledge_at, tree_at, world_at, own_context, holdings_at}
use Rattle.x5_model_run.specs.Placed.{is_query_below}
use Rattle.x5_model_theory.specs.Described.{knowledge_of, area_of}
use Rattle.x5_model_theory.specs.Changing.{holding}
use Rattle.x5_model_theory.proofs.Views.{there_decides}
use Rattle.x5_model_updates.specs.Judging.{IsJudge}
use Rattle.x5_model_updates.proofs.Held.{in_area}
use Rattle.x5_model_updates.proofs.Trees.{in_part}
use Rattle.x5_model_updates.proofs.Judges.{Seat, seat_of, known_is, held_found}
use Rattle.x5_model_serve.specs.Finding.{Here, in_own, at_pin, resolved, find}
use Rattle.x5_model_find.specs.Finds.{JudgeIsHere}
use Rattle.x5_model_find.proofs.Needing.{false_true, Path, resolving, stopped, wide, done, path}

-- what is there is the lowest on the way to itself
lowest_there : (entries : List Named) (key : Key) (e : Named) → In e entries → key ≡ key_at e → 0 < length key → (x : Named) × (lowest entries key ≡ Some x) × (key_at x ≡ key)
lowest_there entries key e i same full = by (lowest entries key) refl (lowest_right entries key)
  where
    on : IsPrefix (key_at e) key
    on = subst (λ (k : Key). IsPrefix k key) same (prefix_itself key)

    long : length key ≡ length (key_at e)
    long = ap length same

    by : (o : Option Named) → lowest entries key ≡ o → IsLowest entries key (length key) o → (x : Named) × (lowest entries key ≡ Some x) × (key_at x ≡ key)
    by None z l = absurd (l e i on (let a : length key ≡ length (key_at e) = long in omega arith) (let a : length key ≡ length (key_at e) = long in omega arith))
    by (Some x) z l =
        let a : length key ≡ length (key_at e) = long in
        let b : length (key_at e) ≤ length (key_at x) = l.1.1 e i on (omega arith) in
        let c : length (key_at x) ≤ length key = prefix_length (key_at x) key l.1.0 in
        (x, z, same_by_length (key_at x) key key l.1.0 (prefix_itself key) (omega arith))

module _ (h : Holdings) (m : Chained) where
  in_context : (c : Held) (x : Named) → lowest c.entries (key_of m.target) ≡ Some x → same_name x.name m.target ≡ true → in_own h m c ≡ Here c
  in_context c x z k = rw (z, k) refl

  at_own : (q : Key) (c : Held) → held_at h.own q ≡ Some c → at_pin h m (Some q) ≡ in_own h m c
  at_own q c e = rw e refl

  by_resolving : resolves h m ≡ true → find h m ≡ resolved h m
  by_resolving go = by (path h m)
    where
      by : Path h m → find h m ≡ resolved h m
      by (resolving r b k begins) = k
      by (stopped r b k begins) = absurd (false_true (sym r ∙ go))
      by (wide r b k) = absurd (false_true (sym r ∙ go))
      by (done r k begins) = absurd (false_true (sym r ∙ go))

pub judge_is_here : JudgeIsHere
judge_is_here p o m s looked update goes master there_is =
    let same : key_of (target_of m.request.body) ≡ key_of m.target =
    (key_decides (key_of (target_of m.request.body)) (key_of m.target)).0 (both_true (same_name (target_of m.request.body) m.target) (not (is_done m.progress) || is_query_below m.request.body) looked.1).0 in
    let judge : IsJudge p o m = record { stands = s; update = update; target = sym same; resolving = goes; master = master } in
    let seat : Seat p o (key_of m.target) = seat_of p o m judge in
    let held = held_found p o m judge seat in
    let c : Held = own_context (tree_at p) held.0 seat.seat.context in
    let e = of_map key_at (key_of m.target) (tree_at p).entries ((there_decides (tree_at p).entries (key_of m.target)).0 there_is) in
    let inside : In e.0 (part (tree_at p) (pin_of seat.seat)) =
    in_part (knowledge_of (world_at p)) (tree_at p) s.coherent s.tree (pin_of seat.seat) e.0 e.1 (subst (λ (k : Key). IsLongest (tree_at p).pins k (Some (pin_of seat.seat))) e.2 seat.long) in
    let filled : 0 < length (pin_of seat.seat) = s.coherent.filled _ (in_area p s seat.seat seat.there) in
    let within : length (pin_of seat.seat) ≤ length (key_of m.target) = prefix_length (pin_of seat.seat) (key_of m.target) seat.long.1.0 in
    let low = lowest_there (part (tree_at p) (pin_of seat.seat)) (key_of m.target) e.0 inside e.2 (omega arith) in (
      c,
      by_resolving (holdings_at p o) m goes
          ∙ ap (λ (x : Option Key). at_pin (holdings_at p o) m x) (known_is p o m judge seat)
          ∙ at_own (holdings_at p o) m (pin_of seat.seat) c held.1
          ∙ in_context (holdings_at p o) m c low.0 low.1 ((key_decides (key_of low.0.name) (key_of m.target)).1 low.2),
    )
