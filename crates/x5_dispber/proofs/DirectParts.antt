-- What is read straight of the parts of a total refresh is read of the whole.
use Rattle.std.proofs.Common.{◌≡◌, ℕ, ◌+◌, ◌≤◌, ◌<◌, ◌%◌, Bool, true, false, not, List, [], ◌∷◌, ◌++◌, length, map}
use Rattle.std.proofs.Common.{refl, ap, sym}
use Rattle.std.proofs.Common.{◌∙◌, subst, arith, lit<, lit≤, append-nil}
use Rattle.std.proofs.lemmas.List.{map-append}
use Rattle.std.specs.Prelude.{pos, if◌then◌else◌}
use Rattle.std.specs.List.{list_all}
use Rattle.std.specs.declared.option.Option.{Option}
use Rattle.std.specs.declared.option.Option.TheVariants.{Some}
use Rattle.x5_model.specs.Entries as entries
use Rattle.x5_model.specs.Values.{Text, Name}
use Rattle.x5_model.proofs.Lists.{and_true}
use Rattle.x5_model_messages.specs.Shadows as shadows
use Rattle.x5_model_messages.specs.Shadows.{Known, NonSpecific, agent_in, agent_node, entry_in, known_in, known_of}
use Rattle.x5_model_messages.specs.Shadows.{non_specific_in}
use Rattle.x5_model_messages.specs.Terms.{name_of, node_of}
use Rattle.x5_model_typed.specs.Forms.{Explicit, Joined, Primitive, by_tag, choice, or, plain, ruled, universal}
use Rattle.x5_model_typed.specs.Layouts.{Surroundings, integer, invoke, layout, named_by, sequence, sequence_of}
use Rattle.x5_model_typed.specs.Layouts.{shadow_operations, time_leaf}
use Rattle.x5_model_typed.specs.Leaves.{any_number, boolean, from_to, is_agent_name, number}
use Rattle.x5_model_typed.specs.Named as named
use Rattle.x5_model_typed.specs.Named.{Named}
use Rattle.x5_model_typed.specs.Nodes as nodes
use Rattle.x5_model_typed.specs.Nodes.{Node, Chosen, Flag, list, parts, row, whole}
use Rattle.x5_model_typed.specs.Rules.{agents_of, is_copy, known_rule, master_first, masters_rule, text_in}
use Rattle.x5_model_typed.specs.Typed.{Spells}
use Rattle.x5_model_typed.proofs.Laws.{list_row}
use Rattle.x5_model_typed_laws.proofs.Leaves.{let_through, so}
use Rattle.x5_direct.specs.Here.{EachHere, OrderHere, ReadEachHere, ReadsHere, SpelledHere}
use Rattle.x5_direct.specs.Spelled.{Opens, ReadEach, Reads}
use Rattle.x5_direct.proofs.Heads.{opens_so, short_length}
use Rattle.x5_direct.proofs.Here.{branch_here, code_here, each_in_here, given_here, here, higher, last_missing_here}
use Rattle.x5_direct.proofs.Here.{leaf_here, next_here, one_here, order_in_here, over_here}
use Rattle.x5_direct.proofs.EntryParts.{entries_read}
use Rattle.x5_dispber.specs.Direct.{IsMark, LeafAt, world_agent}
use Rattle.x5_dispber.specs.ShadowViews.{agent_name}

-- ---- the name of an agent of the world

named_so : (a b : Bool) → (if a then b else false) ≡ true → b ≡ true
named_so true b h = h
named_so false b h = absurd (cc h)

pub record IsNamed (w : Surroundings) (n : Node) : Type 0 where
  pub text : n ≡ nodes.Text (text_in n)
  pub agent : w.is_agent (text_in n) ≡ true

pub agent_is_named : (w : Surroundings) (n : Node) (octets rest : List ℕ) → LeafAt (world_agent w) 19 n octets rest
    → IsNamed w n
agent_is_named w n octets rest l =
    let is = so (if is_agent_name l.content then w.is_agent l.content else false) (nodes.Text l.content) n l.reads in
    let named = named_so (is_agent_name l.content) (w.is_agent l.content) is.0 in
    subst (λ (m : Node). IsNamed w m) is.1 (record { text = refl; agent = named })

-- ---- the end

pub nothing_behind : (a b : List ℕ) → length a + length b ≤ 0 → (a ≡ []) × (b ≡ [])
nothing_behind [] [] h = (refl, refl)
nothing_behind [] (o ∷ b) h = absurd (omega (arith, h))
nothing_behind (o ∷ a) b h = absurd (omega (arith, h))

-- ---- lists of agents

abbrev pub agent_nodes : List Text → Bool → List ℕ → List Node
agent_nodes names copy agents = map (agent_node copy) (map (agent_name names) agents)

pub one_agent_more : (names : List Text) (copy : Bool) (before now : List ℕ) (agent : ℕ) → now ≡ before ++ (agent ∷ [])
    → agent_nodes names copy now ≡ agent_nodes names copy before ++ (agent_node copy (agent_name names agent) ∷ [])
one_agent_more names copy before now agent e =
    ap (λ (l : List ℕ). agent_nodes names copy l) e
    ∙ ap (map (agent_node copy)) (map-append (agent_name names) before (agent ∷ []))
    ∙ map-append (agent_node copy) (map (agent_name names) before) (agent_name names agent ∷ [])

pub itself : (ns : List Node) → map (λ n. n) ns ≡ ns
itself [] = refl
itself (n ∷ ns) = ap (λ (l : List Node). n ∷ l) (itself ns)

module _ (w : Surroundings) where
  -- ---- primitive elements

  pub number_here : (form : Named) (k : ℕ) (octets rest : List ℕ)
      → by_tag 0 2 (layout w form) ≡ Some (integer (from_to 0 4294967295))
      → LeafAt (number (from_to 0 4294967295)) 2 (whole k) octets rest → SpelledHere w 0 form (whole k) octets rest
  number_here form k octets rest tagged l =
      leaf_here w form 2 0 2 (integer (from_to 0 4294967295)) (whole k) (whole k) l.content octets rest l.opens refl
      (lit< tt) tagged l.reads refl

  moment_here : (m : ℕ) (octets rest : List ℕ) → LeafAt (time_leaf w) 24 (whole m) octets rest
      → SpelledHere w 0 named.Time (whole m) octets rest
  moment_here m octets rest l =
      leaf_here w named.Time 24 0 24 (universal 24 (Joined (time_leaf w))) (whole m) (whole m) l.content octets rest
      l.opens
      refl (lit< tt) refl l.reads refl

  agent_name_here : (t : Text) (octets rest : List ℕ) → LeafAt (world_agent w) 19 (nodes.Text t) octets rest
      → SpelledHere w 0 named.WorldAgentName (nodes.Text t) octets rest
  agent_name_here t octets rest l =
      leaf_here w named.WorldAgentName 19 0 19 (Rattle.x5_model_typed.specs.Layouts.agent_name w.is_agent)
      (nodes.Text t) (nodes.Text t) l.content octets rest
      l.opens refl (lit< tt) refl l.reads refl

  -- a content of one octet
  short_opens : (first octet : ℕ) (rest : List ℕ) → first < 256 → first % 32 < 31
      → Opens first (octet ∷ []) (first ∷ 1 ∷ octet ∷ rest) rest
  short_opens first octet rest small low =
      opens_so first 1 (first ∷ 1 ∷ octet ∷ rest) (1 ∷ octet ∷ rest) (octet ∷ rest) (octet ∷ []) rest small low refl
      (short_length 1 (octet ∷ rest) (lit< tt)) (omega arith) refl refl

  -- ---- agents

  mark_here : SpelledHere w 0 named.Boolean (Flag true) (1 ∷ 1 ∷ 255 ∷ []) []
  mark_here =
      leaf_here w named.Boolean 1 0 1 (universal 1 (Primitive boolean)) (Flag true) (Flag true) (255 ∷ [])
      (1 ∷ 1 ∷ 255 ∷ []) [] (short_opens 1 255 [] (lit< tt) (lit< tt)) refl (lit< tt) refl refl refl

  behind_agent : (copy : Bool) (octets : List ℕ) → IsMark copy octets
      → OrderHere w 0 (or (Flag false) (plain named.Boolean) ∷ []) (Flag copy ∷ []) octets
  behind_agent true octets is =
      subst (λ (l : List ℕ). OrderHere w 0 (or (Flag false) (plain named.Boolean) ∷ []) (Flag true ∷ []) l) (sym is)
      (given_here w 0 named.Boolean (Flag false) [] (Flag true) [] (1 ∷ 1 ∷ 255 ∷ []) [] mark_here (over_here w 0))
  behind_agent false octets is =
      subst (λ (l : List ℕ). OrderHere w 0 (or (Flag false) (plain named.Boolean) ∷ []) (Flag false ∷ []) l) (sym is)
      (last_missing_here w 0 named.Boolean (Flag false))

  pub agent_spelled : (copy : Bool) (t : Text) (content behind octets rest : List ℕ) → Opens 48 content octets rest
      → LeafAt (world_agent w) 19 (nodes.Text t) content behind → IsMark copy behind
      → SpelledHere w 1 named.WorldAgent (agent_node copy t) octets rest
  agent_spelled copy t content behind octets rest opens l mark =
      let cs = plain named.WorldAgentName ∷ or (Flag false) (plain named.Boolean) ∷ [] in
      branch_here w 0 named.WorldAgent 48 0 16 (sequence cs) (agent_node copy t) (agent_node copy t) content octets
      rest opens
      refl refl
      (order_in_here w 0 cs (nodes.Text t ∷ Flag copy ∷ []) content
      (next_here w 0 named.WorldAgentName (or (Flag false) (plain named.Boolean) ∷ []) (nodes.Text t) (Flag copy ∷ [])
      content behind (agent_name_here t content behind l) (behind_agent copy behind mark))) refl

  -- ---- references

  reference_spelled : (form : Named) (rule : Node → Option Node) (name : Node) (ns : List Node)
      (content behind members end octets rest : List ℕ)
      → by_tag 0 16 (layout w form) ≡ Some (ruled rule (sequence (plain named.Name ∷ plain named.WorldAgents ∷ [])))
      → rule (node_of (name ∷ node_of ns ∷ [])) ≡ Some (node_of (name ∷ node_of ns ∷ []))
      → Opens 48 content octets rest → SpelledHere w 3 named.Name name content behind → Opens 48 members behind end
      → end ≡ [] → EachHere w 1 named.WorldAgent ns members
      → SpelledHere w 4 form (node_of (name ∷ node_of ns ∷ [])) octets rest
  reference_spelled form rule name ns content behind members end octets rest tagged kept opens first inner over all =
      let cs = plain named.Name ∷ plain named.WorldAgents ∷ [] in
      let last = subst (λ (l : List ℕ). Opens 48 members behind l) over inner in
      let agents = branch_here w 1 named.WorldAgents 48 0 16 (sequence_of named.WorldAgent) (node_of ns) (node_of ns)
      members
      behind [] last refl refl (each_in_here w 1 named.WorldAgent ns members all) refl in
      let n = node_of (name ∷ node_of ns ∷ []) in
      branch_here w 3 form 48 0 16 (ruled rule (sequence cs)) n n content octets rest opens refl tagged
      (order_in_here w 3 cs (name ∷ node_of ns ∷ []) content
      (next_here w 3 named.Name (plain named.WorldAgents ∷ []) name (node_of ns ∷ []) content behind first
      (next_here w 3 named.WorldAgents [] (node_of ns) [] behind []
      (higher w 2 3 named.WorldAgents (node_of ns) behind [] (lit≤ tt) agents) (over_here w 3)))) kept

  all_copies : (ts : List Text) → list_all is_copy (map (agent_node true) ts) ≡ true
  all_copies [] = refl
  all_copies (t ∷ ts) = and_true true (list_all is_copy (map (agent_node true) ts)) refl (all_copies ts)

  all_masters : (ts : List Text) → list_all (λ a. not (is_copy a)) (map (agent_node false) ts) ≡ true
  all_masters [] = refl
  all_masters (t ∷ ts) =
      and_true true (list_all (λ (a : Node). not (is_copy a)) (map (agent_node false) ts)) refl (all_masters ts)

  agents_back : (copy : Bool) (ts : List Text) → map agent_in (map (agent_node copy) ts) ≡ ts
  agents_back copy [] = refl
  agents_back copy (t ∷ ts) = ap (λ (xs : List Text). t ∷ xs) (agents_back copy ts)

  abbrev accessible : Text → List Text → List Node
  accessible master copies = agent_node false master ∷ map (agent_node true) copies

  known_kept : (name : Node) (master : Text) (copies : List Text)
      → known_rule (node_of (name ∷ node_of (accessible master copies) ∷ []))
      ≡ Some (node_of (name ∷ node_of (accessible master copies) ∷ []))
  known_kept name master copies =
      let n = node_of (name ∷ node_of (accessible master copies) ∷ []) in
      let_through (master_first (agents_of n)) n
      (ap (λ (l : List Node). list_all is_copy l) (list_row (map (agent_node true) copies)) ∙ all_copies copies)

  known_said : (name : Node) (master : Text) (copies : List Text)
      → record { pin = name_of name; master = master; shadows = copies }
      ≡ known_in (node_of (name ∷ node_of (accessible master copies) ∷ []))
  known_said name master copies =
      sym (ap (λ (l : List Node). known_of name l) (list_row (accessible master copies))
      ∙ ap (λ (ts : List Text). record { pin = name_of name; master = master; shadows = ts }) (agents_back true copies))

  pub known_read : (pin : Name) (master : Text) (copies : List Text) (content behind members end octets rest : List ℕ)
      → Opens 48 content octets rest → Reads 3 named.Name name_of pin content behind → Opens 48 members behind end
      → end ≡ [] → EachHere w 1 named.WorldAgent (accessible master copies) members
      → ReadsHere w 4 named.Known known_in (record { pin = pin; master = master; shadows = copies }) octets rest
  known_read pin master copies content behind members end octets rest opens first inner over all = (
    node_of (first.0 ∷ node_of (accessible master copies) ∷ []),
    reference_spelled named.Known known_rule first.0 (accessible master copies) content behind members end octets rest
        refl
        (known_kept first.0 master copies) opens (here w 3 named.Name first.0 content behind first.1) inner over all,
    ap (λ (n : Name). record { pin = n; master = master; shadows = copies }) first.2 ∙ known_said first.0 master copies,
  )

  masters_kept : (name : Node) (masters : List Text)
      → masters_rule (node_of (name ∷ node_of (map (agent_node false) masters) ∷ []))
      ≡ Some (node_of (name ∷ node_of (map (agent_node false) masters) ∷ []))
  masters_kept name masters =
      let n = node_of (name ∷ node_of (map (agent_node false) masters) ∷ []) in
      let_through (list_all (λ a. not (is_copy a)) (agents_of n)) n
      (ap (λ (l : List Node). list_all (λ (a : Node). not (is_copy a)) l) (list_row (map (agent_node false) masters))
      ∙ all_masters masters)

  other_said : (name : Node) (masters : List Text)
      → record { at = name_of name; agents = masters }
      ≡ non_specific_in (node_of (name ∷ node_of (map (agent_node false) masters) ∷ []))
  other_said name masters =
      sym (ap (λ (l : List Node). record { at = name_of name; agents = map agent_in l })
      (list_row (map (agent_node false) masters))
      ∙ ap (λ (ts : List Text). record { at = name_of name; agents = ts }) (agents_back false masters))

  pub other_read : (at : Name) (masters : List Text) (content behind members end octets rest : List ℕ)
      → Opens 48 content octets rest → Reads 3 named.Name name_of at content behind → Opens 48 members behind end
      → end ≡ [] → EachHere w 1 named.WorldAgent (map (agent_node false) masters) members
      → ReadsHere w 4 named.NonSpecific non_specific_in (record { at = at; agents = masters }) octets rest
  other_read at masters content behind members end octets rest opens first inner over all = (
    node_of (first.0 ∷ node_of (map (agent_node false) masters) ∷ []),
    reference_spelled named.NonSpecific masters_rule first.0 (map (agent_node false) masters) content behind members end
        octets rest refl (masters_kept first.0 masters) opens (here w 3 named.Name first.0 content behind first.1) inner
        over all,
    ap (λ (n : Name). record { at = n; agents = masters }) first.2 ∙ other_said first.0 masters,
  )

  -- ---- a total refresh

  total_same : (xs ys : List entries.Named) (ks ls : List Known) (os ps : List NonSpecific) → xs ≡ ys → ks ≡ ls
      → os ≡ ps
      → shadows.Total xs ks os ≡ shadows.Total ys ls ps
  total_same xs ys ks ls os ps e f g = cc (e, f, g)

  total_said : (xs : List entries.Named) (known : List Known) (others : List NonSpecific) (es : Node)
      (ks os : List Node)
      → xs ≡ map entry_in (parts es) → known ≡ map known_in ks → others ≡ map non_specific_in os
      → shadows.Total xs known others ≡ shadows.total_in (node_of (es ∷ node_of ks ∷ node_of os ∷ []))
  total_said xs known others es ks os e f g =
      let a : known ≡ map known_in (list (row ks)) = f ∙ sym (ap (map known_in) (list_row ks)) in
      let b : others ≡ map non_specific_in (list (row os)) = g ∙ sym (ap (map non_specific_in) (list_row os)) in
      total_same xs (map entry_in (parts es)) known (map known_in (list (row ks))) others
      (map non_specific_in (list (row os))) e a b

  pub total_read : (xs : List entries.Named) (known : List Known) (others : List NonSpecific)
      (octets content rest first second third behind last end : List ℕ) → Opens 48 content octets rest → rest ≡ []
      → Opens 48 first content behind → Opens 48 second behind last → Opens 48 third last end → end ≡ []
      → ReadEach 7 named.Entry entry_in xs first → ReadEachHere w 4 named.Known known_in known second
      → ReadEachHere w 4 named.NonSpecific non_specific_in others third
      → ReadsHere w 9 named.Total shadows.total_in (shadows.Total xs known others) octets []
  total_read xs known others octets content rest first second third behind last end opens over o p q done r s t =
      let cs = plain named.Entries ∷ plain named.Knowns ∷ plain named.NonSpecifics ∷ [] in
      let e = entries_read entry_in xs first content behind o r in
      let k = node_of s.0 in
      let m = node_of t.0 in
      let n = node_of (e.0 ∷ k ∷ m ∷ []) in
      let ended = subst (λ (l : List ℕ). Opens 48 third last l) done q in
      let knowns = branch_here w 4 named.Knowns 48 0 16 (sequence_of named.Known) k k second behind last p refl refl
      (each_in_here w 4 named.Known s.0 second s.1) refl in
      let rest_of = branch_here w 4 named.NonSpecifics 48 0 16 (sequence_of named.NonSpecific) m m third last [] ended
      refl refl
      (each_in_here w 4 named.NonSpecific t.0 third t.1) refl in
      let whole' = subst (λ (l : List ℕ). Opens 48 content octets l) over opens in (
        n,
        branch_here w 8 named.Total 48 0 16 (sequence cs) n n content octets [] whole' refl refl
            (order_in_here w 8 cs (e.0 ∷ k ∷ m ∷ []) content
            (next_here w 8 named.Entries (plain named.Knowns ∷ plain named.NonSpecifics ∷ []) e.0 (k ∷ m ∷ []) content
            behind
            (here w 8 named.Entries e.0 content behind e.1)
            (next_here w 8 named.Knowns (plain named.NonSpecifics ∷ []) k (m ∷ []) behind last
            (higher w 5 8 named.Knowns k behind last (lit≤ tt) knowns)
            (next_here w 8 named.NonSpecifics [] m [] last []
            (higher w 5 8 named.NonSpecifics m last [] (lit≤ tt) rest_of)
            (over_here w 8))))) refl,
        total_said xs known others e.0 s.0 t.0 e.2 s.2 t.2,
      )

  -- ---- the message

  sent_said : (agreement stamp : ℕ) (refresh : shadows.Refresh) (n : Node) → refresh ≡ shadows.total_in n
      → shadows.Update agreement stamp refresh
      ≡ shadows.argument_in 2 (node_of (whole agreement ∷ whole stamp ∷ Chosen 0 n ∷ []))
  sent_said agreement stamp refresh n e = ap (λ (r : shadows.Refresh). shadows.Update agreement stamp r) e

  pub sent_read : (agreement stamp : ℕ) (refresh : shadows.Refresh)
      (octets content rest behind last inner end : List ℕ) → Opens 48 content octets rest → rest ≡ []
      → LeafAt (number (from_to 0 4294967295)) 2 (whole agreement) content behind
      → LeafAt (time_leaf w) 24 (whole stamp) behind last → Opens 160 inner last end → end ≡ []
      → ReadsHere w 9 named.Total shadows.total_in refresh inner []
      → ReadsHere w 11 named.UpdateArgument (shadows.argument_in 2) (shadows.Update agreement stamp refresh) octets []
  sent_read agreement stamp refresh octets content rest behind last inner end opens over a b o done r =
      let cs = plain named.Agreement ∷ plain named.Time ∷ plain named.Refresh ∷ [] in
      let chosen = Chosen 0 r.0 in
      let n = node_of (whole agreement ∷ whole stamp ∷ chosen ∷ []) in
      let ended = subst (λ (l : List ℕ). Opens 160 inner last l) done o in
      let refreshed = branch_here w 9 named.Refresh 160 2 0 (choice 0 (Explicit named.Total)) r.0 r.0 inner last []
      ended refl
      refl (one_here w 9 named.Total r.0 inner [] refl r.1) refl in
      let whole' = subst (λ (l : List ℕ). Opens 48 content octets l) over opens in (
        n,
        branch_here w 10 named.UpdateArgument 48 0 16 (sequence cs) n n content octets [] whole' refl refl
            (order_in_here w 10 cs (whole agreement ∷ whole stamp ∷ chosen ∷ []) content
            (next_here w 10 named.Agreement (plain named.Time ∷ plain named.Refresh ∷ []) (whole agreement)
            (whole stamp ∷ chosen ∷ []) content behind
            (higher w 0 10 named.Agreement (whole agreement) content behind (lit≤ tt)
            (number_here named.Agreement agreement content behind refl a))
            (next_here w 10 named.Time (plain named.Refresh ∷ []) (whole stamp) (chosen ∷ []) behind last
            (higher w 0 10 named.Time (whole stamp) behind last (lit≤ tt) (moment_here stamp behind last b))
            (next_here w 10 named.Refresh [] chosen [] last [] refreshed (over_here w 10))))) refl,
        sent_said agreement stamp refresh r.0 r.2,
      )

  code_two : (rest : List ℕ) → SpelledHere w 0 named.AnyNumber (whole 2) (2 ∷ 1 ∷ 2 ∷ rest) rest
  code_two rest =
      leaf_here w named.AnyNumber 2 0 2 (integer any_number) (whole 2) (whole 2) (2 ∷ []) (2 ∷ 1 ∷ 2 ∷ rest) rest
      (short_opens 2 2 rest (lit< tt) (lit< tt)) refl (lit< tt) refl refl refl

  message_said : (id : ℕ) (m : shadows.Shadow) (n : Node) → m ≡ shadows.argument_in 2 n
      → (id, m) ≡ shadows.shadow_in (Chosen 1 (node_of (whole id ∷ whole 2 ∷ n ∷ [])))
  message_said id m n e = ap (λ (s : shadows.Shadow). (id, s)) e

  pub message_read : (id : ℕ) (m : shadows.Shadow) (octets content rest behind last : List ℕ)
      → Opens 161 content octets rest → rest ≡ [] → LeafAt (number (from_to 0 4294967295)) 2 (whole id) content behind
      → behind ≡ 2 ∷ 1 ∷ 2 ∷ last → ReadsHere w 11 named.UpdateArgument (shadows.argument_in 2) m last []
      → ReadsHere w 12 named.DispMessage shadows.shadow_in (id, m) octets []
  message_read id m octets content rest behind last opens over a is r =
      let ids = named.NumberBelow 0 4294967295 in
      let coded = Rattle.x5_model_typed.specs.Forms.code named.AnyNumber (named_by shadow_operations) in
      let inner = node_of (whole id ∷ whole 2 ∷ r.0 ∷ []) in
      let whole' = subst (λ (l : List ℕ). Opens 161 content octets l) over opens in
      let code' = subst (λ (l : List ℕ). SpelledHere w 11 named.AnyNumber (whole 2) l last) (sym is)
      (higher w 0 11 named.AnyNumber (whole 2) (2 ∷ 1 ∷ 2 ∷ last) last (lit≤ tt) (code_two last)) in (
        Chosen 1 inner,
        branch_here w 11 named.DispMessage 161 2 1 (invoke shadow_operations) inner inner content octets [] whole'
            refl refl
            (order_in_here w 11 (plain ids ∷ coded ∷ []) (whole id ∷ whole 2 ∷ r.0 ∷ []) content
            (next_here w 11 ids (coded ∷ []) (whole id) (whole 2 ∷ r.0 ∷ []) content behind
            (higher w 0 11 ids (whole id) content behind (lit≤ tt) (number_here ids id content behind refl a))
            (code_here w 11 named.AnyNumber (named_by shadow_operations) (pos 2) named.UpdateArgument r.0 behind last
            [] refl
            code' refl r.1))) refl,
        message_said id m r.0 r.2,
      )

  -- It's one spelling of the message and nothing else.
  pub message_spelled : (octets : List ℕ) (n : Node) → SpelledHere w 12 named.DispMessage n octets []
      → Spells (layout w) named.DispMessage octets n
  message_spelled octets n s =
      let e = s.is_element 1 0 (lit≤ tt) in
      subst (λ (l : List ℕ). Spells (layout w) named.DispMessage l n) (sym (s.whole ∙ append-nil s.part))
      (record { tree = e.tree; lies = e.lies; is_of = e.is_of })
