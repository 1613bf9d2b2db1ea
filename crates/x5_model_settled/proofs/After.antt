-- What is held at the line after. What is accepted over consistent knowledge is right, so one agent at most accepted, it is
-- the judge of the update, and the tree doesn't refuse: then the next line is one after an accepted update. Where none did,
-- the line did nothing; then tree, knowledge and stamps stay, and with them what is held.
use Rattle.std.proofs.Common.{◌≡◌, ℕ, suc, ◌-◌, ◌≤◌, ◌==◌, nat_le, Bool, true, ◌||◌, inl, inr, List, [], ◌∷◌, ◌++◌, map, length, reverse, refl, sym, ap, subst, ◌∙◌, arith, Option, Some, None, Ok, Err, if◌then◌else◌}
use Rattle.std.specs.List.{list_all}
use Rattle.std.specs.Result.{is_ok}
use Rattle.std.proofs.lemmas.Bool.Decides.{leb_tells}
use Rattle.x5_model.specs.Words.{has, is_empty, first_of, in_option, some_and}
use Rattle.x5_model.specs.Members.{In}
use Rattle.x5_model.specs.Keys.{Key}
use Rattle.x5_model.specs.Values.{key_of}
use Rattle.x5_model.specs.Entries.{Named}
use Rattle.x5_model.specs.Requests.{Request}
use Rattle.x5_model.specs.References.{Chained}
use Rattle.x5_model.proofs.KeyLaws.{key_decides}
use Rattle.x5_model.proofs.Decide.{nat_same_decides}
use Rattle.x5_model.proofs.Lists.{both_true, true_or_false}
use Rattle.x5_model_tree.specs.World.{Agent, Agreement, Network, World}
use Rattle.x5_model_tree.specs.Tree.{Tree, part}
use Rattle.x5_model_tree.specs.Masters.{agent_at, held_contexts}
use Rattle.x5_model_tree.specs.Consistent.{IsConsistent}
use Rattle.x5_model_tree.specs.Described.{IsDescribed}
use Rattle.x5_model_tree.specs.Ask.{is_update}
use Rattle.x5_model_tree.specs.Apply.{Applied, apply}
use Rattle.x5_model_run.specs.Journal.{Line, same_name, is_reached}
use Rattle.x5_model_run.specs.Holdings.{Held, Copy}
use Rattle.x5_model_run.specs.Needs.{target_of}
use Rattle.x5_model_run.specs.History.{Deed, Nothing, Outs, Loses, Accepts, Refreshes, Splits, Unsplits, Did, Point, Refreshed, network_after, network_at, tree_by, tree_after, tree_at, knowledge_by, knowledge_after, knowledge_at, tree_of_moment, refresh_of, refreshes_of, stamp_of, as_of, sent_references, mastered_at, copy_as_of, copy_by, own_context, agreements_of, agent_holdings, holdings_at, no_holdings, sent_before}
use Rattle.x5_model_run.specs.Chain.{opening, scene_with}
use Rattle.x5_model_run.specs.Right.{master_at, is_master_at, is_accepted_right}
use Rattle.x5_model_updates.specs.Keeping.{MovesNone, NoneMoved}
use Rattle.x5_model_updates.specs.Judging.{IsJudge}
use Rattle.x5_model_updates.proofs.Stood.{lines_stand}
use Rattle.x5_model_verdicts.specs.Committing.{IsStamped}
use Rattle.x5_model_verdicts.proofs.Committed.{committed_is_after}
use Rattle.x5_model_serve.specs.Committed.{committed}
use Rattle.x5_model_held.specs.Theorems.{is_still}
use Rattle.x5_model_settled.specs.Afterwards.{HoldsAfter, HoldsOn, NetworkStays, MovedNoneAfter, KnowsAsDescribed, StampedAtFirst, StampedOn}
use Rattle.x5_model_settled.proofs.Settled.{accepted_deed, knowledge_stays, did_none_move, lines_take_right}

-- ---- knowledge

pub knows_as_described : KnowsAsDescribed
knows_as_described = knowledge_stays

pub moved_none_after : MovedNoneAfter
moved_none_after past command block none = (did_none_move command block, none)

-- ---- a line that changes nothing that is held

-- what a copy has beside its entries
abbrev copy_with : World → Agreement → List Named → Held
copy_with k g entries =
    in_option (record { prefix = g.context; entries = entries; subordinate = []; nssrs = [] })
    (λ c. record { prefix = g.context; entries = entries; subordinate = sent_references k c entries; nssrs = c.context.nssrs })
    (mastered_at k (key_of g.context))

one_tree : (d : Deed) (t : Tree) → is_still d ≡ true → tree_after d t ≡ t
one_tree Nothing t e = refl
one_tree (Outs o) t e = refl
one_tree (Loses reply k) t e = refl
one_tree (Accepts []) t e = refl
one_tree (Accepts (a ∷ more)) t e = cc
one_tree (Refreshes f) t e = cc
one_tree (Splits name a) t e = cc
one_tree (Unsplits name) t e = cc

one_world : (w : World) (past : List Did) (d : Deed) (k : World) → is_still d ≡ true → knowledge_after w past d k ≡ k
one_world w past Nothing k e = refl
one_world w past (Outs o) k e = refl
one_world w past (Loses reply n) k e = refl
one_world w past (Accepts accepted) k e = refl
one_world w past (Refreshes f) k e = refl
one_world w past (Splits name a) k e = cc
one_world w past (Unsplits name) k e = cc

one_stamp : (d : Deed) (number : ℕ) → is_still d ≡ true → refresh_of d number ≡ []
one_stamp Nothing number e = refl
one_stamp (Outs o) number e = refl
one_stamp (Loses reply n) number e = refl
one_stamp (Accepts accepted) number e = refl
one_stamp (Refreshes f) number e = cc
one_stamp (Splits name a) number e = cc
one_stamp (Unsplits name) number e = cc

module _ (w : World) (past : List Did) (d : Did) (still : is_still d.deed ≡ true) where
  abbrev held_before : Point
  held_before = record { described = w; past = past }

  abbrev held_after : Point
  held_after = record { described = w; past = d ∷ past }

  tree_stays : tree_at held_after ≡ tree_at held_before
  tree_stays = one_tree d.deed (tree_by w past) still

  world_stays : knowledge_at held_after ≡ knowledge_at held_before
  world_stays = one_world w past d.deed (knowledge_by w past) still

  -- also at moments that are still to come
  moment_stays : (m : ℕ) → tree_of_moment held_after m ≡ tree_of_moment held_before m
  moment_stays m = elim (leb_tells m (length past)) [
    | inl t ↦ (let e : suc (length past) - m ≡ suc (length past - m) = omega arith in rw e refl)
    | inr f ↦ (let e : suc (length past) - m ≡ 0 = omega arith in let g : length past - m ≡ 0 = omega arith in rw (e, g) tree_stays)
  ]

  stamp_stays : (number : ℕ) → as_of held_after number ≡ as_of held_before number
  stamp_stays number =
      ap (λ (fs : List Refreshed). stamp_of (first_of (fs ++ refreshes_of past number))) (one_stamp d.deed number still)

  copy_stays : (g : Agreement) (x : Option ℕ) → copy_as_of held_after g x ≡ copy_as_of held_before g x
  copy_stays g None = refl
  copy_stays g (Some m) =
      ap (λ (k : World). copy_with k g (part (tree_of_moment held_after m) (key_of g.context))) world_stays
      ∙ ap (λ (t : Tree). copy_with (knowledge_at held_before) g (part t (key_of g.context))) (moment_stays m)

  one_stays : (g : Agreement) → copy_by held_after g ≡ copy_by held_before g
  one_stays g =
      ap (λ (x : Option ℕ). record { held = copy_as_of held_after g x; stamp = x; supplier = g.supplier }) (stamp_stays g.number)
      ∙ ap (λ (c : Held). record { held = c; stamp = as_of held_before g.number; supplier = g.supplier })
      (copy_stays g (as_of held_before g.number))

  copies_stay : (gs : List Agreement) → map (copy_by held_after) gs ≡ map (copy_by held_before) gs
  copies_stay [] = refl
  copies_stay (g ∷ gs) =
      ap (λ (c : Copy). c ∷ map (copy_by held_after) gs) (one_stays g)
      ∙ ap (λ (cs : List Copy). copy_by held_before g ∷ cs) (copies_stay gs)

  agent_stays : (me : ℕ) (x : Agent) → agent_holdings held_after me x ≡ agent_holdings held_before me x
  agent_stays me x =
      ap (λ (t : Tree). record (agent_holdings held_after me x) { own = map (own_context t x) (held_contexts [] x.contexts) })
      tree_stays
      ∙ ap (λ (k : World). record (agent_holdings held_before me x) { copies = map (copy_by held_after) (agreements_of k me) })
      world_stays
      ∙ ap (λ (cs : List Copy). record (agent_holdings held_before me x) { copies = cs })
      (copies_stay (agreements_of (knowledge_at held_before) me))

  any_stays : (me : ℕ) (x : Option Agent)
      → in_option (no_holdings me) (agent_holdings held_after me) x ≡ in_option (no_holdings me) (agent_holdings held_before me) x
  any_stays me None = refl
  any_stays me (Some x) = agent_stays me x

  holds_same : (me : ℕ) → holdings_at held_after me ≡ holdings_at held_before me
  holds_same me =
      ap (λ (k : World). in_option (no_holdings me) (agent_holdings held_after me) (agent_at k me)) world_stays
      ∙ any_stays me (agent_at (knowledge_at held_before) me)

pub holds_on : HoldsOn
holds_on w past d a still = holds_same w past d still a

-- ---- stamps

pub one_knowledge : (w : World) (past : List Did) (d : Deed) (k : World) → MovesNone d → knowledge_after w past d k ≡ k
one_knowledge w past Nothing k m = refl
one_knowledge w past (Outs o) k m = refl
one_knowledge w past (Loses reply n) k m = refl
one_knowledge w past (Accepts accepted) k m = refl
one_knowledge w past (Refreshes f) k m = refl
one_knowledge w past (Splits name a) k m = absurd m
one_knowledge w past (Unsplits name) k m = absurd m

pub stamped_at_first : StampedAtFirst
stamped_at_first w g moment i e = cc

pub stamped_on : StampedOn
stamped_on w past d none plain stamped g moment i e =
    let there = subst (λ (k : World). In g k.agreements) (one_knowledge w past d.deed (knowledge_by w past) none) i in
    let same = ap (λ (fs : List Refreshed). stamp_of (first_of (fs ++ refreshes_of past g.number))) (plain g.number) in
    let l : moment ≤ length past = stamped g moment there (sym same ∙ e) in omega arith

-- ---- a message

network_same : (r : Request) (accepted : List ℕ) (sent : ℕ) (net : Network)
    → network_after (accepted_deed r accepted) sent net ≡ net
network_same r [] sent net = refl
network_same r (a ∷ more) sent net = refl

pub network_stays : NetworkStays
network_stays w past m j =
    network_same m.request (reverse j.accepted) (sent_before past) (network_at (record { described = w; past = past }))

that_one : (o : Option ℕ) (a : ℕ) → some_and (λ m. m == a) o ≡ true → o ≡ Some a
that_one None a e = cc
that_one (Some m) a e = ap (λ (x : ℕ). Some x) ((nat_same_decides m a).0 e)

accepted_tree : (x : Applied) → is_ok x ≡ true → (u : Tree) × (x ≡ Ok u)
accepted_tree (Ok u) e = (u, refl)
accepted_tree (Err x) e = cc

is_member : (o a : ℕ) → (a == o) ≡ has ◌==◌ (o ∷ []) a
is_member o a = elim (true_or_false (a == o)) [
  | inl t ↦ (let e : o ≡ a = sym ((nat_same_decides a o).0 t) in let s : (o == a) ≡ true = (nat_same_decides o a).1 e in rw (t, s) refl)
  | inr f ↦ elim (true_or_false (o == a)) [
    | inl s ↦ (let e : a ≡ o = sym ((nat_same_decides o a).0 s) in let t : (a == o) ≡ true = (nat_same_decides a o).1 e in cc)
    | inr s ↦ rw (f, s) refl
  ]
]

module _ (w : World) (past : List Did) (first : ℕ) (m : Chained) (lines : List Line) (described : IsDescribed w) (consistent : IsConsistent w) (none : NoneMoved past) (stamped : IsStamped (record { described = w; past = past })) where
  abbrev here : Point
  here = record { described = w; past = past }

  abbrev next : List ℕ → Point
  next xs = record { described = w; past = record { deed = accepted_deed m.request (reverse xs); sent = length lines } ∷ past }

  judge : (o : ℕ) → is_update m.request.body ≡ true → is_master_at here (key_of (target_of m.request.body)) o ≡ true
      → IsJudge here o (opening m.request)
  judge o up at = record {
    stands = lines_stand w past described consistent none;
    update = up;
    target = refl;
    resolving = refl;
    master = that_one (master_at here (key_of (target_of m.request.body))) o at;
  }

  after_one : (o a : ℕ) → same_name (target_of m.request.body) m.target ≡ true
      → is_accepted_right here (scene_with here first m) lines o ≡ true
      → holdings_at (next (o ∷ [])) a ≡ (if has ◌==◌ (o ∷ []) a then committed m.request (holdings_at here a) else holdings_at here a)
  after_one o a fit e =
      let up = both_true (is_update m.request.body) _ e in
      let reached = both_true (is_reached lines o) _ up.1 in
      let at = both_true (is_master_at here (key_of m.target) o) _ reached.1 in
      let u = accepted_tree (apply (tree_at here) m.request) at.1 in
      let same = (key_decides (key_of (target_of m.request.body)) (key_of m.target)).0 fit in
      let master : is_master_at here (key_of (target_of m.request.body)) o ≡ true =
      ap (λ (x : Key). is_master_at here x o) same ∙ at.0 in
      committed_is_after here o a (opening m.request) u.0 (length lines) (judge o up.0 master) stamped u.1
      ∙ ap (λ (b : Bool). if b then committed m.request (holdings_at here a) else holdings_at here a) (is_member o a)

  after_any : (xs : List ℕ) (a : ℕ) → nat_le (length xs) 1 ≡ true
      → list_all (is_accepted_right here (scene_with here first m) lines) xs ≡ true
      → (is_empty xs || same_name (target_of m.request.body) m.target) ≡ true
      → holdings_at (next xs) a ≡ (if has ◌==◌ xs a then committed m.request (holdings_at here a) else holdings_at here a)
  after_any [] a one all fit = holds_on w past (record { deed = Nothing; sent = length lines }) a refl
  after_any (o ∷ []) a one all fit =
      after_one o a fit (both_true (is_accepted_right here (scene_with here first m) lines o) true all).0
  after_any (o ∷ x ∷ more) a one all fit = grind arith

pub holds_after : HoldsAfter
holds_after w past first m most j reply a described consistent none stamped is =
    let take = lines_take_right w past first m described consistent none most j reply is in
    after_any w past first m j.lines described consistent none stamped j.accepted a take.one take.right take.fit
