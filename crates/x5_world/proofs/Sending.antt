-- A message that is sent is one line more of the journal, with the fate that the network gives it; what is under way
-- stays so.
use Rattle.std.proofs.Common.{◌≡◌, ℕ, ◌+◌, ◌<◌, ◌≤◌, Bool, true, false, cond, nat_lt, nat_le, inl, inr, List, [], ◌∷◌, ◌++◌, length, map, reverse, refl, sym, ap, subst, ◌∙◌, arith, Option, length-append}
use Rattle.std.specs.List.{list_all}
use Rattle.std.proofs.lemmas.List.{length-map, reverse-append, length-reverse, map-append}
use Rattle.std.proofs.lemmas.List.Folds.{list_all-append}
use Rattle.std.proofs.lemmas.Bool.Decides.{leb_tells}
use Rattle.std.proofs.lemmas.Bool.{lt-ltb}
use Rattle.x5_model.specs.Words.{in_option}
use Rattle.x5_model.specs.References as model
use Rattle.x5_model.proofs.Lists.{and_true}
use Rattle.x5_model_run.specs.Network as fates
use Rattle.x5_model_run.specs.Journal.{Line, Journal}
use Rattle.x5_model_run.specs.Chain.{Scene}
use Rattle.x5_model_serve.specs.Serving.{hand_of, line_of, with_line, is_spent}
use Rattle.x5_model_limits.specs.Messages.{BoundedMessage}
use Rattle.x5_model_limits.specs.Doing.{BoundedHand, BoundedJournal}
use Rattle.x5_model_limits.proofs.Lists.{each_both, each_one}
use Rattle.x5_ops.specs.JournalViews.{fate_view}
use Rattle.x5_ops.specs.ReferenceViews.{chained_view, item_view}
use Rattle.x5_ops.specs.declared.references.Chained.{Chained}
use Rattle.x5_serve.specs.Networks.{IsCarriedBy}
use Rattle.x5_world.specs.Arrivals.{arrival_by}
use Rattle.x5_world.specs.State.{Net}
use Rattle.x5_world.specs.Sent.{line_view, journal_of, scene_of, is_counted, IsUnderWay}
use Rattle.x5_world.specs.declared.journal.Sent.{Sent}
use Rattle.x5_world.proofs.Journals.{receiver_there}

-- ---- the journal with one line more

pub journal_more : (names : List (List ℕ)) (lines : List Sent) (accepted : List ℕ) (x : Sent)
    → journal_of names (lines ++ x ∷ []) accepted ≡ with_line (line_view names x) (journal_of names lines accepted)
journal_more names lines accepted x =
    let e : reverse (map (line_view names) (lines ++ x ∷ [])) ≡ line_view names x ∷ reverse (map (line_view names) lines) =
    ap reverse (map-append (line_view names) lines (x ∷ []))
    ∙ reverse-append (map (line_view names) lines) (line_view names x ∷ []) in
    λ i. record { lines = e i; accepted = reverse accepted }

pub many : (names : List (List ℕ)) (lines : List Sent) (accepted : List ℕ)
    → length (journal_of names lines accepted).lines ≡ length lines
many names lines accepted = length-reverse (map (line_view names) lines) ∙ length-map lines (line_view names)

pub line_is : (n : Net) (first : ℕ) (user : model.Chained) (lines : List Sent) (accepted : List ℕ) (x : Sent)
    (from : Option ℕ) (to : ℕ) (m : model.Chained)
    → x.number ≡ n.sent + length lines + 1 → x.from ≡ from → x.to ≡ to → chained_view n.names x.message ≡ m
    → fate_view x.fate ≡ fates.fate_of n.network (n.sent + length lines + 1) from to
    → line_view n.names x ≡ line_of (scene_of n first user) (journal_of n.names lines accepted) from to m
line_is n first user lines accepted x from to m number sender receiver message fate =
    let same = sym (many n.names lines accepted) in
    λ i. record {
      number = (number ∙ ap (λ k. n.sent + k + 1) same) i;
      sender = sender i;
      receiver = receiver i;
      message = message i;
      fate = (fate ∙ ap (λ k. fates.fate_of n.network (n.sent + k + 1) from to) same) i;
    }

-- ---- what becomes of it

pub unspent : (names : List (List ℕ)) (lines : List Sent) (accepted : List ℕ) (most : ℕ) → length lines < most
    → is_spent most (journal_of names lines accepted) ≡ false
unspent names lines accepted most h = elim (leb_tells most (length (journal_of names lines accepted).lines)) [
  | inl x ↦ (let e = many names lines accepted in absurd (omega (arith, x.1, h, e)))
  | inr y ↦ y.0
]

pub carried : (s : Scene) (most : ℕ) (names : List (List ℕ)) (i j : Journal) (from : Option ℕ) (to : ℕ)
    (m : model.Chained) (taken : Chained) (f : fates.Fate) → is_spent most i ≡ false
    → (line_of s i from to m).fate ≡ f → j ≡ with_line (line_of s i from to m) i → chained_view names taken ≡ m
    → IsCarriedBy s most names i j from to m (arrival_by f taken)
carried s most names i j from to m taken fates.Lost unspent e is t = (unspent, e, is)
carried s most names i j from to m taken fates.NoReply unspent e is t = (unspent, e, is, t)
carried s most names i j from to m taken fates.Sent unspent e is t = (unspent, e, is, t)

pub is_carried : (n : Net) (first : ℕ) (user : model.Chained) (most : ℕ) (lines more : List Sent) (accepted : List ℕ)
    (x : Sent) (from : Option ℕ) (to : ℕ) (message taken : Chained)
    → length lines < most → more ≡ lines ++ x ∷ []
    → x.number ≡ n.sent + length lines + 1 → x.from ≡ from → x.to ≡ to
    → chained_view n.names x.message ≡ chained_view n.names message
    → chained_view n.names taken ≡ chained_view n.names message
    → fate_view x.fate ≡ fates.fate_of n.network (n.sent + length lines + 1) from to
    → IsCarriedBy (scene_of n first user) most n.names (journal_of n.names lines accepted)
    (journal_of n.names more accepted) from to (chained_view n.names message) (arrival_by (fate_view x.fate) taken)
is_carried n first user most lines more accepted x from to message taken within e number sender receiver same took fate =
    let line =
    line_is n first user lines accepted x from to (chained_view n.names message) number sender receiver same fate in
    carried (scene_of n first user) most n.names (journal_of n.names lines accepted) (journal_of n.names more accepted)
    from to (chained_view n.names message) taken (fate_view x.fate) (unspent n.names lines accepted most within)
    (sym (ap (λ (l : Line). l.fate) line))
    (ap (λ (ls : List Sent). journal_of n.names ls accepted) e ∙ journal_more n.names lines accepted x
    ∙ ap (λ (l : Line). with_line l (journal_of n.names lines accepted)) line)
    took

-- ---- what is under way

trace_same : (names : List (List ℕ)) (a b : Chained) → chained_view names a ≡ chained_view names b
    → length a.trace ≡ length b.trace
trace_same names a b e =
    sym (length-map a.trace (item_view names)) ∙ ap (λ (m : model.Chained). length m.trace) e
    ∙ length-map b.trace (item_view names)

pub counts : (names : List (List ℕ)) (x : Sent) (message : Chained)
    → in_option true (λ a. nat_lt a (length names)) x.from ≡ true → x.to < length names
    → chained_view names x.message ≡ chained_view names message → length message.trace ≤ 4294967295
    → is_counted names x ≡ true
counts names x message sender receiver same short =
    let trace = trace_same names x.message message same in
    and_true (in_option true (λ a. nat_lt a (length names)) x.from) _ sender
    (and_true (nat_lt x.to (length names)) (nat_le (length x.message.trace) 4294967295)
    (lt-ltb x.to (length names) receiver)
    (elim (leb_tells (length x.message.trace) 4294967295) [
      | inl y ↦ y.0
      | inr y ↦ absurd (omega (arith, y.1, short, trace))
    ]))

-- one message more within the limits
one_more : (n : ℕ) (i j : Journal) (l : Line) → BoundedJournal n i → BoundedHand n (hand_of l) → j ≡ with_line l i
    → BoundedJournal n j
one_more n i j l all one e =
    subst (BoundedJournal n) (sym e)
    (each_both (λ (x : Line). BoundedHand n (hand_of x)) (l ∷ []) i.lines
    (each_one (λ (x : Line). BoundedHand n (hand_of x)) l one) all)

pub still_under_way : (n now : Net) (first : ℕ) (m : model.Chained) (most : ℕ) (lines more : List Sent)
    (accepted : List ℕ) (x : Sent)
    → IsUnderWay n now first m most lines accepted → length lines < most → is_counted n.names x ≡ true
    → BoundedMessage (chained_view n.names x.message) → more ≡ lines ++ x ∷ []
    → IsUnderWay n now first m most more accepted
still_under_way n now first m most lines more accepted x w within counted bounded e = record {
  net = w.net;
  changed = w.changed;
  there = w.there;
  short = w.short;
  request = w.request;
  room = w.room;
  within =
      (let l : length more ≡ length lines + 1 = ap length e ∙ length-append lines (x ∷ []) in omega (arith, l, within));
  counted =
      ap (list_all (is_counted n.names)) e ∙ list_all-append (is_counted n.names) lines (x ∷ [])
      ∙ and_true (list_all (is_counted n.names) lines) (list_all (is_counted n.names) (x ∷ [])) w.counted
      (and_true (is_counted n.names x) true counted refl);
  agents = w.agents;
  journal = one_more (length n.names) (journal_of n.names lines accepted) (journal_of n.names more accepted)
      (line_view n.names x) w.journal
      (record { receiver = receiver_there n.names x counted; message = bounded })
      (ap (λ (ls : List Sent). journal_of n.names ls accepted) e ∙ journal_more n.names lines accepted x);
}

-- whether or not there was memory for the line
pub pushed : (n now : Net) (first : ℕ) (m : model.Chained) (most : ℕ) (lines more : List Sent) (accepted : List ℕ)
    (x : Sent) (b : Bool)
    → IsUnderWay n now first m most lines accepted → length lines < most → is_counted n.names x ≡ true
    → BoundedMessage (chained_view n.names x.message) → more ≡ cond b (lines ++ x ∷ []) lines
    → IsUnderWay n now first m most more accepted
pushed n now first m most lines more accepted x true w within counted bounded e =
    still_under_way n now first m most lines more accepted x w within counted bounded e
pushed n now first m most lines more accepted x false w within counted bounded e =
    subst (λ (ls : List Sent). IsUnderWay n now first m most ls accepted) (sym e) w
