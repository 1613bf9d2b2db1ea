-- What an agent evaluates on the spot, as sources: a context of its own as of now, or a copy as of its last refresh.
use Rattle.std.proofs.Common.{◌≡◌, ℕ, Bool, true, false, not, ◌&&◌, ◌==◌, if◌then◌else◌, ◌⊎◌, inl, inr, List, [], map, refl, sym, ap, subst, ◌∙◌, Option, Some, None}
use Rattle.std.specs.List.{list_all, filter}
use Rattle.std.specs.Option.{is_some}
use Rattle.std.proofs.lemmas.Bool.Decides.{Decides-eqb}
use Rattle.x5_model.specs.Words.{distinct, in_option, some_and}
use Rattle.x5_model.specs.Members.{In}
use Rattle.x5_model.specs.Keys.{Key, same_key}
use Rattle.x5_model.specs.Values.{key_of}
use Rattle.x5_model.specs.Answers.{Source}
use Rattle.x5_model.specs.Requests.{Request}
use Rattle.x5_model.proofs.KeyLaws.{key_decides}
use Rattle.x5_model.proofs.Decide.{once_decides}
use Rattle.x5_model.proofs.Lists.{and_true, not_true, in_either, in_map, of_map, of_filter, of_find, not_found, any_in, all_in, once_map}
use Rattle.x5_model_tree.specs.World.{Agent, Agreement, World}
use Rattle.x5_model_tree.specs.Tree.{part}
use Rattle.x5_model_tree.specs.Masters.{master_of, is_consumer}
use Rattle.x5_model_tree.specs.Consistent.{IsConsistent}
use Rattle.x5_model_run.specs.Journal.{Line}
use Rattle.x5_model_run.specs.Holdings.{Held, Copy, Holdings, copy_at, masters_pin, served, usable_copies, may_copy}
use Rattle.x5_model_run.specs.Needs.{evaluated}
use Rattle.x5_model_run.specs.History.{Point, knowledge_at, tree_at, tree_of_moment, as_of, copy_by, agent_holdings, holdings_at}
use Rattle.x5_model_run.specs.Covers.{source_tree}
use Rattle.x5_model_run.specs.Blocked.{hears}
use Rattle.x5_model_run.specs.Right.{is_copy_source, is_source}
use Rattle.x5_model_theory.specs.Described.{supply_of}
use Rattle.x5_model_theory.proofs.Cohering.{agreements_apart}
use Rattle.x5_model_theory.proofs.Supplying.{given}
use Rattle.x5_model_theory.proofs.Holding.{copy_is, copy_key}
use Rattle.x5_model_parts.specs.Standing.{Stands, CopiesStand, knowledge_now}
use Rattle.x5_model_parts.specs.Parts.{BeginsHere, spots, IsOwn, IsCopied}
use Rattle.x5_model_parts.proofs.Asking.{false_true}
use Rattle.x5_model_parts.proofs.Spots.{held_in, spot_is}
use Rattle.x5_model_parts.proofs.Owning.{map_map, own_area_is, own_like, own_in}
use Rattle.x5_model_parts.proofs.Copying.{usable_sent}
use Rattle.x5_model_parts.proofs.Joining.{sight, spots_are_right}
use Rattle.x5_model_serve.specs.Walking.{entered}
use Rattle.x5_model_serve.specs.Walked.{pins_of}
use Rattle.x5_model_serve.proofs.Walks.{walk_once, of_walk, pin_in_walk}
use Rattle.x5_model_serve.specs.Answering.{stamp_at, local_sources}
use Rattle.x5_model_serve.specs.Claims.{asked_line}
use Rattle.x5_model_joins.proofs.Backs.{own_back}

-- ---- an agent has one copy of a context, with the moment of its last refresh

one_agreement : (w : World) → IsConsistent w → (g f : Agreement) → In g w.agreements → In f w.agreements → g.consumer ≡ f.consumer → key_of g.context ≡ key_of f.context → g ≡ f
one_agreement w c g f i j e k = once_map given w.agreements g f (agreements_apart w c) i j (λ n. (e n, k n))

module _ (p : Point) (st : Stands p) (o : ℕ) (a : Agent) where
  abbrev h : Holdings
  h = agent_holdings p o a

  one_copy : (x y : Copy) → In x h.copies → In y h.copies → key_of x.held.prefix ≡ key_of y.held.prefix → x ≡ y
  one_copy x y i j e =
      let g = copy_is p o a x i in
      let f = copy_is p o a y j in
      let gk : key_of x.held.prefix ≡ key_of g.0.context = ap (λ (z : Copy). key_of z.held.prefix) g.3 ∙ copy_key p g.0 in
      let fk : key_of y.held.prefix ≡ key_of f.0.context = ap (λ (z : Copy). key_of z.held.prefix) f.3 ∙ copy_key p f.0 in
      g.3 ∙ ap (copy_by p) (one_agreement (knowledge_at p) st.consistent g.0 f.0 g.1 f.1 (g.2 ∙ sym f.2) (sym gk ∙ e ∙ fk)) ∙ sym f.3

  copy_found : (x : Copy) → In x h.copies → copy_at h (key_of x.held.prefix) ≡ Some x
  copy_found x i = go (copy_at (agent_holdings p o a) (key_of x.held.prefix)) refl
    where
      go : (y : Option Copy) → copy_at (agent_holdings p o a) (key_of x.held.prefix) ≡ y → y ≡ Some x
      go None e =
          let none : same_key (key_of x.held.prefix) (key_of x.held.prefix) ≡ false = not_found (λ (c : Copy). same_key (key_of c.held.prefix) (key_of x.held.prefix)) x (agent_holdings p o a).copies e i in
          absurd (false_true (sym none ∙ (key_decides (key_of x.held.prefix) (key_of x.held.prefix)).1 refl))
      go (Some y) e =
          let f = of_find (λ (c : Copy). same_key (key_of c.held.prefix) (key_of x.held.prefix)) y (agent_holdings p o a).copies e in
          ap Some (one_copy y x f.0 i ((key_decides (key_of y.held.prefix) (key_of x.held.prefix)).0 f.1))

  -- what may be used is the copy that it has
  usable_at : (r : Request) (c : Held) → In c (usable_copies r h) → (x : Copy) × In x h.copies × (c ≡ x.held) × (may_copy r ≡ true)
  usable_at r c i = go (may_copy r) refl i
    where
      go : (b : Bool) → may_copy r ≡ b → In c (if b then map (λ (x : Copy). x.held) (filter (λ (x : Copy). is_some x.stamp) (agent_holdings p o a).copies) else []) → (x : Copy) × In x (agent_holdings p o a).copies × (c ≡ x.held) × (may_copy r ≡ true)
      go false e j = elim j [ ]
      go true e j =
          let x = of_map (λ (x : Copy). x.held) c (filter (λ (x : Copy). is_some x.stamp) (agent_holdings p o a).copies) j in
          let f = of_filter (λ (x : Copy). is_some x.stamp) x.0 (agent_holdings p o a).copies x.1 in
          (x.0, f.0, x.2, e)

-- ---- the source of a context that is evaluated on the spot

abbrev pub source_here : Holdings → Held → Source
source_here h c = record { context = c.prefix; agent = h.me; moment = stamp_at h c }

pub record IsSourceHere (p : Point) (l : Line) (lines : List Line) (stood : ℕ) (h : Holdings) (c : Held) : Type 0 where
  pub entries : c.entries ≡ part (source_tree p (stamp_at h c)) (key_of c.prefix)
  pub right : is_source p (asked_line l stood) lines (source_here h c) ≡ true

pub hears_itself : (l : Line) (lines : List Line) (stood : ℕ) → In l lines → hears (asked_line l stood) lines l.receiver ≡ true
hears_itself l lines stood stands = own_back (λ x. x.receiver == l.receiver) l stood lines stands ((Decides-eqb l.receiver l.receiver).1 refl)

module _ (p : Point) (l : Line) (b : BeginsHere p l) (lines : List Line) (stood : ℕ) (stands : In l lines) where
  abbrev a : Agent
  a = (sight p l b).agent

  abbrev hs : Holdings
  hs = agent_holdings p l.receiver (sight p l b).agent

  from_own : (c : Held) → In c (evaluated (holdings_at p l.receiver) l.message) → In c hs.own → IsSourceHere p l lines stood hs c
  from_own c i mine = by (spots_are_right p l c b i)
    where
      stamp : stamp_at hs c ≡ None
      stamp = ap (λ (x : Bool). if x then None else in_option None (λ (y : Copy). y.stamp) (copy_at hs (key_of c.prefix))) (held_in hs.own c mine)

      entries : c.entries ≡ part (tree_at p) (key_of c.prefix)
      entries = let d = own_area_is p b.stands l.receiver (sight p l b).agent (sight p l b).place c mine in subst (λ (y : Held). y.entries ≡ part (tree_at p) (key_of y.prefix)) (sym d.2) refl

      mastered : master_of (knowledge_at p) (key_of c.prefix) ≡ Some l.receiver → IsSourceHere p l lines stood hs c
      mastered m = record {
        entries = entries ∙ ap (λ (o : Option ℕ). part (source_tree p o) (key_of c.prefix)) (sym stamp);
        right = ap (λ (o : Option ℕ). is_source p (asked_line l stood) lines (record { context = c.prefix; agent = l.receiver; moment = o })) stamp
            ∙ and_true (hears (asked_line l stood) lines l.receiver) (some_and (λ (x : ℕ). x == l.receiver) (master_of (knowledge_at p) (key_of c.prefix))) (hears_itself l lines stood stands)
            (ap (some_and (λ (x : ℕ). x == l.receiver)) m ∙ (Decides-eqb l.receiver l.receiver).1 refl);
      }

      by : IsOwn p l c ⊎ IsCopied p l c → IsSourceHere p l lines stood hs c
      by (inl own) = mastered own.1
      by (inr copied) =
          let x = own_like p b.stands l.receiver (sight p l b).agent (sight p l b).place (served l.message.request hs) (λ d j. own_in p b.stands l.receiver (sight p l b).agent (sight p l b).place l.message.request d j) c mine in
          absurd (b.stands.coherent.consumers (supply_of copied.agreement) (in_map supply_of copied.agreement (knowledge_at p).agreements copied.stands)
          (x.0, x.2.area, x.1 ∙ sym copied.consumer, x.2.prefix ∙ sym copied.context))

  from_agreement : (c : Held) (g : Agreement) (moment : ℕ) → In g (knowledge_at p).agreements → g.consumer ≡ l.receiver → as_of p g.number ≡ Some moment → key_of g.context ≡ key_of c.prefix → may_copy l.message.request ≡ true
      → c.entries ≡ part (tree_of_moment p moment) (key_of c.prefix) → stamp_at hs c ≡ Some moment → IsSourceHere p l lines stood hs c
  from_agreement c g moment i consumer refreshed key may entries stamp = record {
    entries = entries ∙ ap (λ (o : Option ℕ). part (source_tree p o) (key_of c.prefix)) (sym stamp);
    right = ap (λ (o : Option ℕ). is_source p (asked_line l stood) lines (record { context = c.prefix; agent = l.receiver; moment = o })) stamp
        ∙ and_true (hears (asked_line l stood) lines l.receiver) (may_copy l.message.request && is_copy_source p (record { context = c.prefix; agent = l.receiver; moment = Some moment }) moment) (hears_itself l lines stood stands)
        (and_true (may_copy l.message.request) (is_copy_source p (record { context = c.prefix; agent = l.receiver; moment = Some moment }) moment) may
        (any_in (λ (x : Agreement). is_consumer l.receiver (key_of c.prefix) x && some_and (λ (t : ℕ). t == moment) (as_of p x.number)) g (knowledge_at p).agreements i
        (and_true (is_consumer l.receiver (key_of c.prefix) g) (some_and (λ (t : ℕ). t == moment) (as_of p g.number))
        (and_true (g.consumer == l.receiver) (same_key (key_of g.context) (key_of c.prefix)) ((Decides-eqb g.consumer l.receiver).1 consumer) ((key_decides (key_of g.context) (key_of c.prefix)).1 key))
        (ap (some_and (λ (t : ℕ). t == moment)) refreshed ∙ (Decides-eqb moment moment).1 refl))));
  }

  from_copy : CopiesStand p → (c : Held) → In c (usable_copies l.message.request hs) → masters_pin hs (key_of c.prefix) ≡ false → IsSourceHere p l lines stood hs c
  from_copy stand c j free =
      let u = usable_sent p b.stands l.receiver (sight p l b).agent (sight p l b).place l.message stand l.message.request c j in
      let x = usable_at p b.stands l.receiver (sight p l b).agent l.message.request c j in
      let g = copy_is p l.receiver (sight p l b).agent x.0 x.1 in
      let key : key_of u.0.context ≡ key_of c.prefix = ap (λ (y : Held). key_of y.prefix) (sym u.8) in
      let gk : key_of g.0.context ≡ key_of c.prefix = sym (copy_key p g.0) ∙ ap (λ (y : Copy). key_of y.held.prefix) (sym g.3) ∙ ap (λ (y : Held). key_of y.prefix) (sym x.2) in
      let same : g.0 ≡ u.0 = one_agreement (knowledge_at p) b.stands.consistent g.0 u.0 g.1 u.3 (g.2 ∙ sym u.4) (gk ∙ sym key) in
      let at : copy_at hs (key_of c.prefix) ≡ Some x.0 = ap (λ (y : Held). copy_at hs (key_of y.prefix)) x.2 ∙ copy_found p b.stands l.receiver (sight p l b).agent x.0 x.1 in
      let stamped : x.0.stamp ≡ Some u.1 = ap (λ (y : Copy). y.stamp) g.3 ∙ ap (λ (y : Agreement). as_of p y.number) same ∙ u.5 in
      from_agreement c u.0 u.1 u.3 u.4 u.5 key x.3 (subst (λ (y : Held). y.entries ≡ part (tree_of_moment p u.1) (key_of y.prefix)) (sym u.8) refl)
      (ap (λ (z : Bool). if z then None else in_option None (λ (y : Copy). y.stamp) (copy_at hs (key_of c.prefix))) free ∙ ap (in_option None (λ (y : Copy). y.stamp)) at ∙ stamped)

  from_sight : (c : Held) → In c (evaluated (holdings_at p l.receiver) l.message) → IsSourceHere p l lines stood hs c
  from_sight c i =
      let v = sight p l b in
      let x = spot_is (knowledge_at p) (tree_at p) (knowledge_now p) l.receiver (holdings_at p l.receiver) l.message v.look v.sees_it c i in
      let y : In c (served l.message.request hs) = subst (λ (h : Holdings). In c (served l.message.request h)) v.is x.0 in
      elim (in_either c hs.own (filter (λ (d : Held). not (masters_pin hs (key_of d.prefix))) (usable_copies l.message.request hs)) y) [
        | inl mine ↦ from_own c i mine
        | inr j ↦ (let f = of_filter (λ (d : Held). not (masters_pin hs (key_of d.prefix))) c (usable_copies l.message.request hs) j in
            elim b.copies [
              | inl none ↦ (let u = usable_at p b.stands l.receiver (sight p l b).agent l.message.request c f.0 in absurd (false_true (sym none ∙ u.3)))
              | inr stand ↦ from_copy stand c f.0 (not_true (masters_pin hs (key_of c.prefix)) f.1)
            ])
      ]

  -- as it stands in the local part
  pub source_is : (c : Held) → In c (evaluated (holdings_at p l.receiver) l.message) → IsSourceHere p l lines stood (holdings_at p l.receiver) c
  source_is c i = subst (λ (h : Holdings). IsSourceHere p l lines stood h c) (sym (sight p l b).is) (from_sight c i)

  pub here_is : (c : Held) → In c (entered (holdings_at p l.receiver) l.message) → IsSourceHere p l lines stood (holdings_at p l.receiver) c
  here_is c i = source_is c (of_walk false (holdings_at p l.receiver) l.message c i)

  pub sources_right : list_all (is_source p (asked_line l stood) lines) (local_sources (holdings_at p l.receiver) l.message) ≡ true
  sources_right = all_in (is_source p (asked_line l stood) lines) (local_sources (holdings_at p l.receiver) l.message) (λ x i.
      (let c = of_map (source_here (holdings_at p l.receiver)) x (entered (holdings_at p l.receiver) l.message) i in
      subst (λ (y : Source). is_source p (asked_line l stood) lines y ≡ true) (sym c.2) (here_is c.0 c.1).right))

  keys_here : map (λ x. key_of x.context) (local_sources (holdings_at p l.receiver) l.message) ≡ pins_of (entered (holdings_at p l.receiver) l.message)
  keys_here = map_map (source_here (holdings_at p l.receiver)) (λ (x : Source). key_of x.context) (entered (holdings_at p l.receiver) l.message)

  -- they are the spots
  pub of_keys : (z : Key) → In z (map (λ x. key_of x.context) (local_sources (holdings_at p l.receiver) l.message)) → In z (spots p l)
  of_keys z i =
      let c = of_map (λ (d : Held). key_of d.prefix) z (entered (holdings_at p l.receiver) l.message) (subst (λ (ks : List Key). In z ks) keys_here i) in
      subst (λ (k : Key). In k (spots p l)) (sym c.2)
      (in_map (λ (d : Held). key_of d.prefix) c.0 (evaluated (holdings_at p l.receiver) l.message) (of_walk false (holdings_at p l.receiver) l.message c.0 c.1))

  pub in_keys : (z : Key) → In z (spots p l) → In z (map (λ x. key_of x.context) (local_sources (holdings_at p l.receiver) l.message))
  in_keys z i =
      let c = of_map (λ (d : Held). key_of d.prefix) z (evaluated (holdings_at p l.receiver) l.message) i in
      subst (λ (ks : List Key). In z ks) (sym keys_here)
      (subst (λ (k : Key). In k (pins_of (entered (holdings_at p l.receiver) l.message))) (sym c.2) (pin_in_walk false (holdings_at p l.receiver) l.message c.0 c.1))

  pub sources_once : distinct same_key (map (λ x. key_of x.context) (local_sources (holdings_at p l.receiver) l.message)) ≡ true
  sources_once =
      ap (distinct same_key) keys_here
      ∙ (once_decides same_key key_decides (pins_of (entered (holdings_at p l.receiver) l.message))).1 (walk_once false (holdings_at p l.receiver) l.message)
