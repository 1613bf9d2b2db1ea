-- What is printed of the messages that were sent: one line for each, in their order, between agents of the network.
use Rattle.std.proofs.Common.{◌≡◌, ℕ, zero, suc, arith, ◌+◌, ◌<◌, ◌≤◌, true, nat_lt, nat_le, List, [], ◌∷◌, ◌++◌, length, map, drop, get_or, refl, sym, ap, ◌∙◌, append_assoc, append-nil, Some, slice_get}
use Rattle.std.specs.List.{list_all}
use Rattle.std.proofs.lemmas.Grind.{flat_map-append}
use Rattle.std.proofs.lemmas.List.{map-append}
use Rattle.std.proofs.lemmas.List.Folds.{list_all-append}
use Rattle.std.proofs.Math.ListN.{drop_of_length-le}
use Rattle.x5_model.specs.Words.{distinct, in_option, same_octets}
use Rattle.x5_model.proofs.Lists.{both_true, and_true}
use Rattle.x5_model_heard.specs.Told.{are_agents}
use Rattle.x5_model_run.specs.Journal as model
use Rattle.x5_ops.specs.AgentNames.{agent_of}
use Rattle.x5_ops.proofs.Dropping.{drop_at}
use Rattle.x5_ops.specs.JournalViews.{printed_view, messages_view}
use Rattle.x5_ops.specs.declared.journal.Line.{Line}
use Rattle.x5_access.proofs.Names.{own_place}
use Rattle.x5_world.specs.Answered.{is_agent, line_names_agents}
use Rattle.x5_world.specs.Sent.{line_view, is_counted}
use Rattle.x5_world.specs.declared.journal.Sent.{Sent}

-- an agent's own name names it
pub named_is : (names : List (List ℕ)) (a : ℕ) (x : List ℕ) → distinct same_octets names ≡ true
    → slice_get names a ≡ Some x → nat_lt a (length names) ≡ true → is_agent names x ≡ true
named_is names a x apart at there =
    ap (λ (k : ℕ). nat_lt k (length names)) (own_place names a x apart at) ∙ there

abbrev pub print_of : List (List ℕ) → Sent → model.Printed
print_of names l = model.printed_line (line_view names l)

pub record IsSoFar (names : List (List ℕ)) (sent : List Sent) (i : ℕ) (lines : List Line) : Type 0 where
  pub printed : messages_view names lines ++ map (print_of names) (drop i sent) ≡ map (print_of names) sent
  pub named : list_all (line_names_agents names) lines ≡ true

pub one_more : (names : List (List ℕ)) (sent : List Sent) (i : ℕ) (x : Sent) (lines : List Line) (line : Line)
    (more : List Line)
    → i < length sent → x ≡ get_or sent i x → IsSoFar names sent i lines
    → printed_view names line ≡ print_of names x ∷ [] → line_names_agents names line ≡ true
    → more ≡ lines ++ line ∷ [] → IsSoFar names sent (i + 1) more
one_more names sent i x lines line more within at far is named e = record {
  printed =
      ap (λ (ls : List Line). messages_view names ls ++ map (print_of names) (drop (i + 1) sent)) e
      ∙ ap (λ (ps : List model.Printed). ps ++ map (print_of names) (drop (i + 1) sent))
      (flat_map-append (printed_view names) lines (line ∷ [])
      ∙ ap (λ (ps : List model.Printed). messages_view names lines ++ ps) (append-nil (printed_view names line) ∙ is))
      ∙ append_assoc (messages_view names lines) (print_of names x ∷ []) (map (print_of names) (drop (i + 1) sent))
      ∙ ap (λ (ls : List Sent). messages_view names lines ++ map (print_of names) ls) (sym (drop_at sent i x within at))
      ∙ far.printed;
  named =
      ap (list_all (line_names_agents names)) e
      ∙ list_all-append (line_names_agents names) lines (line ∷ [])
      ∙ and_true (list_all (line_names_agents names) lines) (list_all (line_names_agents names) (line ∷ [])) far.named
      (and_true (line_names_agents names line) true named refl);
}

pub whole : (names : List (List ℕ)) (sent : List Sent) (i : ℕ) (lines : List Line) → length sent ≤ i
    → IsSoFar names sent i lines → messages_view names lines ≡ map (print_of names) sent
whole names sent i lines le far =
    sym (append-nil (messages_view names lines))
    ∙ ap (λ (ls : List Sent). messages_view names lines ++ map (print_of names) ls)
    (sym (drop_of_length-le sent le))
    ∙ far.printed

-- what is so of a message that can be counted
pub sender_there : (names : List (List ℕ)) (l : Sent) → is_counted names l ≡ true
    → in_option true (λ a. nat_lt a (length names)) l.from ≡ true
sender_there names l h = (both_true (in_option true (λ a. nat_lt a (length names)) l.from) _ h).0

pub receiver_there : (names : List (List ℕ)) (l : Sent) → is_counted names l ≡ true → nat_lt l.to (length names) ≡ true
receiver_there names l h =
    (both_true (nat_lt l.to (length names)) _ (both_true (in_option true (λ a. nat_lt a (length names)) l.from) _ h).1).0

pub trace_counts : (names : List (List ℕ)) (l : Sent) → is_counted names l ≡ true
    → nat_le (length l.message.trace) 4294967295 ≡ true
trace_counts names l h =
    (both_true (nat_lt l.to (length names)) _ (both_true (in_option true (λ a. nat_lt a (length names)) l.from) _ h).1).1

-- ---- the names of those who accepted

pub record AreNamedSoFar (names : List (List ℕ)) (accepted : List ℕ) (i : ℕ) (list : List (List ℕ)) : Type 0 where
  pub view : map (agent_of names) list ++ drop i accepted ≡ accepted
  pub named : list_all (is_agent names) list ≡ true

-- who stands at a place of them is an agent
pub is_there : (n : ℕ) (accepted : List ℕ) (i a : ℕ) → are_agents n accepted ≡ true → i < length accepted
    → a ≡ get_or accepted i a → nat_lt a n ≡ true
is_there n [] i a h within at = absurd (omega (arith, within))
is_there n (x ∷ xs) zero a h within at = ap (λ (k : ℕ). nat_lt k n) at ∙ (both_true (nat_lt x n) (are_agents n xs) h).0
is_there n (x ∷ xs) (suc i) a h within at =
    is_there n xs i a (both_true (nat_lt x n) (are_agents n xs) h).1 (omega (arith, within)) at

pub one_name_more : (names : List (List ℕ)) (accepted : List ℕ) (i a : ℕ) (x y : List ℕ) (list more : List (List ℕ))
    → distinct same_octets names ≡ true → are_agents (length names) accepted ≡ true → i < length accepted
    → a ≡ get_or accepted i a → slice_get names a ≡ Some y → x ≡ y → AreNamedSoFar names accepted i list
    → more ≡ list ++ x ∷ [] → AreNamedSoFar names accepted (i + 1) more
one_name_more names accepted i a x y list more apart agents within at is same far e =
    let there : nat_lt a (length names) ≡ true = is_there (length names) accepted i a agents within at in
    let it : slice_get names a ≡ Some x = is ∙ sym (ap Some same) in
    record {
      view =
          ap (λ (ls : List (List ℕ)). map (agent_of names) ls ++ drop (i + 1) accepted) e
          ∙ ap (λ (ps : List ℕ). ps ++ drop (i + 1) accepted) (map-append (agent_of names) list (x ∷ []))
          ∙ append_assoc (map (agent_of names) list) (agent_of names x ∷ []) (drop (i + 1) accepted)
          ∙ ap (λ (k : ℕ). map (agent_of names) list ++ (k ∷ drop (i + 1) accepted)) (own_place names a x apart it)
          ∙ ap (λ (ls : List ℕ). map (agent_of names) list ++ ls) (sym (drop_at accepted i a within at))
          ∙ far.view;
      named =
          ap (list_all (is_agent names)) e ∙ list_all-append (is_agent names) list (x ∷ [])
          ∙ and_true (list_all (is_agent names) list) (list_all (is_agent names) (x ∷ [])) far.named
          (and_true (is_agent names x) true (named_is names a x apart it there) refl);
    }

pub all_named : (names : List (List ℕ)) (accepted : List ℕ) (i : ℕ) (list : List (List ℕ)) → length accepted ≤ i
    → AreNamedSoFar names accepted i list → map (agent_of names) list ≡ accepted
all_named names accepted i list le far =
    sym (append-nil (map (agent_of names) list))
    ∙ ap (λ (ls : List ℕ). map (agent_of names) list ++ ls) (sym (drop_of_length-le accepted le))
    ∙ far.view
