-- The cases of the loop over references: each joins what was gathered so far with what one more reference brought, and
-- shows that nobody was asked by that reference before.
use Rattle.std.proofs.Common.{◌≡◌, ℕ, ◌+◌, ◌<◌, ◌≤◌, Bool, true, false, ◌&&◌, ◌||◌, ◌==◌, nat_le, nat_lt, ◌⊎◌, inl, inr, List, [], ◌∷◌, ◌++◌, length, refl, sym, ap, subst, ◌∙◌, arith, Option}
use Rattle.std.specs.List.{list_all}
use Rattle.std.specs.Option.{is_some, is_none}
use Rattle.std.proofs.lemmas.Bool.Decides.{Decides-eqb}
use Rattle.x5_model.specs.Words.{first_of}
use Rattle.x5_model.specs.Members.{In, here, Once}
use Rattle.x5_model.specs.Keys.{Key, same_key, is_root}
use Rattle.x5_model.specs.Values.{key_of}
use Rattle.x5_model.specs.Entries.{Named}
use Rattle.x5_model.specs.Requests.{Controls, Body, ListBelow, Search}
use Rattle.x5_model.specs.References.{Progress, Start, Next, Done, Reference, Chained}
use Rattle.x5_model.specs.Answers.{Answer, DirError, Reply, Answered, Failed}
use Rattle.x5_model.specs.Problems.{unavailable}
use Rattle.x5_model.proofs.KeyLaws.{key_decides}
use Rattle.x5_model.specs.Statics.{fault_of}
use Rattle.x5_model.proofs.Lists.{both_true, either_true, or_left, or_right, in_first, in_left, in_right, of_map, of_filter, any_in}
use Rattle.x5_model_tree.specs.Tree.{Tree, key_at, keys_of, part, is_there, is_there_or_root}
use Rattle.x5_model_tree.specs.Ask.{Refuses}
use Rattle.x5_model_run.specs.Journal.{Line, Journal, depth, is_done, is_wide, same_progress}
use Rattle.x5_model_run.specs.Needs.{target_of, is_unable}
use Rattle.x5_model_run.specs.History.{Point, knowledge_at, tree_at}
use Rattle.x5_model_run.specs.Chain.{Scene, IsCarried, AllLicensed}
use Rattle.x5_model_run.specs.Covers.{told}
use Rattle.x5_model_run.specs.Blocked.{Asked, hears_by}
use Rattle.x5_model_run.specs.Right.{Right, result, changed, error, referral, unheard}
use Rattle.x5_model_run.specs.Placed.{is_query_below}
use Rattle.x5_model_replies.specs.Replies.{is_long, RightReply, usual, unable, limit}
use Rattle.x5_model_theory.specs.Knowledge.{Area}
use Rattle.x5_model_theory.specs.Described.{knowledge_of}
use Rattle.x5_model_theory.specs.Changing.{holding}
use Rattle.x5_model_parts.specs.Standing.{Stands, knowledge_now}
use Rattle.x5_model_parts.specs.Parts.{BeginsHere, rest_needs}
use Rattle.x5_model_parts.proofs.Asking.{false_true}
use Rattle.x5_model_serve.specs.Answering.{is_unavailable, is_service}
use Rattle.x5_model_serve.specs.Serving.{Hand, line_for, Heard, Unheard, Hears, Whole, limit_reply, is_spent}
use Rattle.x5_model_run.specs.Thorough.{is_served}
use Rattle.x5_model_serve.specs.Claims.{line_at, asked_line, SoFar, serving_of, AtHand, Keeps, MayTake, AskedSoFar, last_number, is_settled_line, OnlyBy}
use Rattle.x5_model_replies.specs.Heard.{TakenRight, MayGather, TakesRight, GathersRight}
use Rattle.x5_model_parts.proofs.Parting.{target_fits}
use Rattle.x5_model_parts.proofs.Joining.{sight, View, the_view, asks}
use Rattle.x5_model_theory.proofs.Following.{query_of}
use Rattle.x5_model_joins.proofs.Backs.{heard_line}
use Rattle.x5_model_joins.proofs.Walked.{in_the_rest}
use Rattle.x5_model_joins.proofs.Following.{no_update_below}
use Rattle.x5_model_joins.proofs.Keeping.{at_most, queries_keep}
use Rattle.x5_model_joins.proofs.Replacing.{part_asks, needed_done}
use Rattle.x5_model_joins.proofs.Telling.{told_list, answers_search, search_told}
use Rattle.x5_model_joins.specs.Loop.{NoPart, PartUnheard, PartUnavailable, PartAnswered, PartBreaks}
use Rattle.x5_model_joins.proofs.Steps.{part_is_gathered, loss_is_gathered, unavailable_is_gathered}

-- ---- nothing is done

none_since : (s : Scene) (test : Line → Bool) (lines : List Line) (n : ℕ) → AllLicensed s lines → s.sent + length lines ≤ n → list_all (λ l. nat_le l.number n || test l) lines ≡ true
none_since s test [] n h l = refl
none_since s test (x ∷ lines) n h l =
    let number : x.number ≡ s.sent + length lines + 1 = h.0.number_is in
    let first : (nat_le x.number n || test x) ≡ true = or_left (nat_le x.number n) (test x) (at_most x.number n (omega (arith, l, number))) in
    let rest = none_since s test lines n h.1 (omega (arith, l)) in
    λ i. first i && rest i

keeps_itself : (p : Point) (s : Scene) (most : ℕ) (o : Hand) (j : Journal) → AtHand p s o j → Keeps p s most o j j
keeps_itself p s most o j h = record {
  licensed = h.licensed;
  settled_is = refl;
  grows = ([], refl);
  accepted = h.accepted;
  finished = inr (none_since s (λ l. is_served s j l && is_settled_line p s j l) j.lines (last_number s j) h.licensed (omega arith));
  reads = λ e. refl;
  only_more = λ x i. i;
  same_line = λ x i. refl;
}

pub no_part : NoPart
no_part p s most from o a j rest h may so = (keeps_itself p s most o j h, (λ e i. inl i), so)

-- ---- a part more

abbrev at_hand_later : (p : Point) (s : Scene) (most : ℕ) (o : Hand) (i j : Journal) → AtHand p s o i → Keeps p s most o i j → AtHand p s o j
at_hand_later p s most o i j h k = record {
  line = h.line;
  receiver_is = h.receiver_is;
  message_is = h.message_is;
  licensed = k.licensed;
  at_hand = ap first_of k.settled_is ∙ h.at_hand;
  arrived = h.arrived;
  prohibited = h.prohibited;
  accepted = k.accepted;
}

may_later : (p : Point) (s : Scene) (most : ℕ) (from : Option ℕ) (o : Hand) (r : Reference) (i j : Journal) → MayTake s from o r i → Keeps p s most o i j → MayTake s from o r j
may_later p s most from o r i j m k = record {
  needed = m.needed;
  sender_is = λ e at. m.sender_is e (sym (ap first_of k.settled_is) ∙ at);
  chains = m.chains;
}

-- the references before
fewer : (p : Point) (s : Scene) (from : Option ℕ) (o : Hand) (rs more : List Reference) (i : Journal) → MayGather p s from o (rs ++ more) i → MayGather p s from o rs i
fewer p s from o rs more i m = record {
  begins = m.begins;
  needed = λ r k. m.needed r (in_left r rs more k);
  takes = λ r k. m.takes r (in_left r rs more k);
  fresh = λ r k. m.fresh r (in_left r rs more k);
  once = once_of rs m.once;
  apart = m.apart;
}
  where
    once_of : (us : List Reference) → Once (us ++ more) → Once us
    once_of [] h = tt
    once_of (u ∷ us) h = ((λ k. h.0 (in_left u us more k)), once_of us h.1)

not_before : (r : Reference) (rs more : List Reference) → Once (rs ++ r ∷ more) → In r rs → ⊥
not_before r [] more h k = elim k [ ]
not_before r (u ∷ us) more h k = elim (in_first r u us k) [
  | inl e ↦ h.0 (subst (λ (x : Reference). In x (us ++ r ∷ more)) e (in_right r us (r ∷ more) here))
  | inr j ↦ not_before r us more h.1 j
]

pub progress_itself : (x : Progress) → same_progress x x ≡ true
progress_itself Start = refl
progress_itself (Next k) = (Decides-eqb k k).1 refl
progress_itself Done = refl

-- nobody was asked by the next one
still_fresh : (p : Point) (s : Scene) (from : Option ℕ) (o : Hand) (rs more : List Reference) (r : Reference) (i j : Journal) → MayGather p s from o (rs ++ r ∷ more) i → OnlyBy o rs i j → AskedSoFar s o r j []
still_fresh p s from o rs more r i j m by = record {
  passed = λ e at a k. elim k [ ];
  only = λ e k agent carried. elim (by e k) [
    | inl old ↦ (m.fresh r (in_right r rs (r ∷ more) here)).only e old agent carried
    | inr x ↦ absurd (not_before r rs more m.once (subst (λ (y : Reference). In y rs) (one e x.0 x.1 x.2 x.3 agent carried) x.1))
  ];
}
  where
    one : (e : Line) (q : Reference) → In q rs → In e.receiver q.agents → IsCarried e.sender (line_for o) q e.message → In e.receiver r.agents → IsCarried e.sender (line_for o) r e.message → q ≡ r
    one e q k qa qc ra rc =
        let names : key_of q.target ≡ key_of r.target = (key_decides (key_of q.target) (key_of e.message.target)).0 qc.target_is ∙ sym ((key_decides (key_of r.target) (key_of e.message.target)).0 rc.target_is) in
        let steps : same_progress q.progress r.progress ≡ true = subst (λ x. same_progress x r.progress ≡ true) qc.progress_is (subst (λ x. same_progress e.message.progress x ≡ true) rc.progress_is (progress_itself e.message.progress)) in
        m.apart.unlike q r e.receiver (m.takes q (in_left q rs (r ∷ more) k)).needed (m.takes r (in_right r rs (r ∷ more) here)).needed ((key_decides (key_of q.target) (key_of r.target)).1 names) steps qa ra

only_by_both : (o : Hand) (rs more : List Reference) (r : Reference) (i j l : Journal) → OnlyBy o rs i j → OnlyBy o (r ∷ []) j l → OnlyBy o (rs ++ r ∷ more) i l
only_by_both o rs more r i j l f g e k = elim (g e k) [
  | inl old ↦ elim (f e old) [ inl x ↦ inl x | inr x ↦ inr (x.0, in_left x.0 rs (r ∷ more) x.1, x.2, x.3) ]
  | inr x ↦ inr (x.0, elim (in_first x.0 r [] x.1) [ inl e ↦ subst (λ (y : Reference). In y (rs ++ r ∷ more)) (sym e) (in_right r rs (r ∷ more) here) | inr j ↦ elim j [ ] ], x.2, x.3)
]

assoc_rest : (rs : List Reference) (r : Reference) (more rest : List Reference) → (rs ++ r ∷ more) ++ rest ≡ rs ++ r ∷ (more ++ rest)
assoc_rest [] r more rest = refl
assoc_rest (u ∷ us) r more rest = ap (λ zs. u ∷ zs) (assoc_rest us r more rest)

-- the loop so far, and then the next one
pub record Further (p : Point) (s : Scene) (most : ℕ) (from : Option ℕ) (o : Hand) (number : ℕ) (rs more rest : List Reference) (b : Answer) (r : Reference) (h : Heard) (i j l : Journal) : Type 0 where
  pub first : Keeps p s most o i j
  pub second : Keeps p s most o j l
  pub whole : Keeps p s most o i l
  pub by : OnlyBy o (rs ++ r ∷ more) i l
  pub so : SoFar p s (serving_of j o number) j.lines b (r ∷ (more ++ rest))
  pub taken : TakenRight p s most (serving_of j o number) from o r l h ⊎ ((h ≡ Hears limit_reply) × (nat_le most (length l.lines) ≡ true))
  pub begins : BeginsHere p (line_at o number)
  pub needed : In r (rest_needs p (line_at o number))

-- where it begins doesn't look at the number of its line
begins_at : (p : Point) (o : Hand) (number : ℕ) → BeginsHere p (line_for o) → BeginsHere p (line_at o number)
begins_at p o number b = record { stands = b.stands; agent = b.agent; fit = b.fit; begins = b.begins; copies = b.copies }

pub next : (p : Point) (s : Scene) (most : ℕ) (from : Option ℕ) (o : Hand) (rs more : List Reference) (a b : Answer) (r : Reference) (h : Heard) (i j l : Journal)
    → GathersRight p s most from o rs a (Whole b) i j → TakesRight p s most from o r h j l
    → (rest : List Reference) (at : AtHand p s o i) → MayGather p s from o (rs ++ r ∷ more) i → SoFar p s (serving_of i o at.line.number) i.lines a ((rs ++ r ∷ more) ++ rest) → Further p s most from o at.line.number rs more rest b r h i j l
next p s most from o rs more a b r h i j l loop one rest at may so =
    let g = loop (r ∷ (more ++ rest)) at (fewer p s from o rs (r ∷ more) i may) (subst (λ (zs : List Reference). SoFar p s (serving_of i o at.line.number) i.lines a zs) (assoc_rest rs r more rest) so) in
    let t = one (at_hand_later p s most o i j at g.0) (may_later p s most from o r i j (may.takes r (in_right r rs (r ∷ more) here)) g.0) (still_fresh p s from o rs more r i j may g.1) in
    record {
      first = g.0;
      second = t.0;
      whole = queries_keep p s most o i j l (no_update_below o.message.request.body (query_of o.message (ap is_some (sight p (line_for o) may.begins).sees_it.subset))) g.0 t.0;
      by = only_by_both o rs more r i j l g.1 t.1;
      so = g.2;
      taken = t.2;
      begins = begins_at p o at.line.number may.begins;
      needed = may.needed r (in_right r rs (r ∷ more) here);
    }

pub part_unheard : PartUnheard
part_unheard p s most from o rs a b r i j l loop one rest at may so =
    let n = next p s most from o rs [] a b r Unheard i j l loop one rest at may so in
    (n.whole, n.by, elim n.taken [ inl t ↦ loss_is_gathered p s most from o at.line.number j l b r rest n.second.grows n.so t | inr x ↦ (let e = x.0 in cc) ])

pub part_unavailable : PartUnavailable
part_unavailable p s most from o rs a b r u i j l loop one rest at may so =
    let n = next p s most from o rs [] a b r (Hears (is_unavailable u)) i j l loop one rest at may so in (
      n.whole,
      n.by,
      elim n.taken [
        | inl t ↦ unavailable_is_gathered p s most from (line_at o at.line.number) j l b r u rest n.begins (in_the_rest p (line_at o at.line.number) n.begins r n.needed) n.second.grows n.second.licensed n.so t
        | inr x ↦ (let e = x.0 in cc)
      ],
    )

pub part_answered : PartAnswered
part_answered p s most from o rs a b c r i j l loop one rest at may so =
    let n = next p s most from o rs [] a b r (Hears (Answered c)) i j l loop one rest at may so in (
      n.whole,
      n.by,
      elim n.taken [
        | inl t ↦ part_is_gathered p s most from (line_at o at.line.number) j l b c r rest n.begins (in_the_rest p (line_at o at.line.number) n.begins r n.needed) n.second.grows n.second.licensed n.so t
        | inr x ↦ (let e = x.0 in cc)
      ],
    )

-- ---- another error

-- a part of consistent knowledge isn't refused
not_refused : (copies : Key → Bool) (t : Tree) (m : Chained) (c : Controls) (b : Body) (y : DirError) → is_query_below b ≡ true → is_done m.progress ≡ true → (is_wide m.kind ≡ true) ⊎ (is_there_or_root t.entries (key_of (target_of b)) ≡ true)
    → told copies t (record m { request = record { controls = c; body = b } }) ≡ Refuses y → ⊥
not_refused copies t m c (ListBelow name) y query done where_it e = by (is_wide m.kind) (subst (λ (d : Bool). told_list d (is_wide m.kind) copies t c name ≡ Refuses y) done e)
  where
    by : (w : Bool) → told_list true w copies t c name ≡ Refuses y → ⊥
    by true f = cc
    by false f = cc
not_refused copies t m c (Search base s f sel) y query done where_it e =
    let yes : answers_search (is_done m.progress) (is_wide m.kind) t.entries base s f sel ≡ true = elim where_it [
      | inl w ↦ or_left (is_done m.progress && is_wide m.kind) (is_none (fault_of (Search base s f sel)) && is_there_or_root t.entries (key_of base)) (λ i. done i && w i)
      | inr there_too ↦ or_right (is_done m.progress && is_wide m.kind) (is_none (fault_of (Search base s f sel)) && is_there_or_root t.entries (key_of base)) there_too
    ] in
    let wrong = sym (search_told (is_done m.progress) (is_wide m.kind) copies t c base base s f sel refl yes) ∙ e in
    cc
not_refused copies t m c b y query done where_it e = false_true query

-- a pin is an entry of the tree
pin_there : (p : Point) → Stands p → (d : Area) → In d (knowledge_now p).areas → is_there (tree_at p).entries d.prefix ≡ true
pin_there p st d i =
    let a = of_map (holding (λ (c : Area). keys_of (part (tree_at p) c.prefix))) d (knowledge_of (knowledge_at p)).areas i in
    let headed : In d.prefix d.entries = st.coherent.headed d i in
    let inside : In a.0.prefix (keys_of (part (tree_at p) a.0.prefix)) = subst (λ (x : Area). In x.prefix x.entries) a.2 headed in
    let e = of_map key_at a.0.prefix (part (tree_at p) a.0.prefix) inside in
    let f = of_filter _ e.0 (tree_at p).entries e.1 in
    subst (λ (x : Area). is_there (tree_at p).entries x.prefix ≡ true) (sym a.2) (any_in (λ (x : Named). same_key (key_at x) a.0.prefix) e.0 (tree_at p).entries f.0 ((key_decides (key_at e.0) a.0.prefix).1 (sym e.2)))

part_told : (p : Point) (l : Line) (from : Option ℕ) (r : Reference) (m : Chained) (copies : Key → Bool) (y : DirError) → BeginsHere p l → In r (rest_needs p l) → IsCarried from l r m → told copies (tree_at p) m ≡ Refuses y → ⊥
part_told p l from r m copies y b needed carried e =
    not_refused copies (tree_at p) m m.request.controls m.request.body y query done (by (the_view p l b r needed)) e
  where
    query : is_query_below m.request.body ≡ true
    query = part_asks p l from r m b needed (record {
      target_is = carried.target_is;
      progress_is = carried.progress_is;
      kind_is = carried.kind_is;
      exclusions_are = carried.exclusions_are;
      trace_is = carried.trace_is;
      request_is = carried.request_is;
    })

    done : is_done m.progress ≡ true
    done = ap is_done carried.progress_is ∙ needed_done p l b r needed

    target : key_of (target_of m.request.body) ≡ key_of r.target
    target =
        (key_decides (key_of (target_of m.request.body)) (key_of m.target)).0 (target_fits l from r m carried (asks p l b r (the_view p l b r needed)) (sight p l b).look.subset (sight p l b).sees_it.subset)
        ∙ sym ((key_decides (key_of r.target) (key_of m.target)).0 carried.target_is)

    by : View p l b r → (is_wide m.kind ≡ true) ⊎ (is_there_or_root (tree_at p).entries (key_of (target_of m.request.body)) ≡ true)
    by (inl v) = inr (subst (λ (x : Key). is_there_or_root (tree_at p).entries x ≡ true) (sym (target ∙ v.1.target)) (or_right (is_root v.0.prefix) (is_there (tree_at p).entries v.0.prefix) (pin_there p b.stands v.0 v.1.area)))
    by (inr v) = inl (ap is_wide carried.kind_is ∙ ap is_wide v.2.kind)

-- nor is its receiver unable to proceed
not_unable : (s : Scene) (q : Asked) → is_done q.message.progress ≡ true → is_unable (s.holdings q.to) q.message ≡ true → ⊥
not_unable s q done e = go q.message.progress done e
  where
    go : (x : Progress) → is_done x ≡ true → is_unable (s.holdings q.to) (record q.message { progress = x }) ≡ true → ⊥
    go Start d f = false_true d
    go (Next k) d f = false_true d
    go Done d f =
        let a = both_true (nat_lt (length q.message.trace) 128) _ f in
        let b = both_true (is_none (fault_of q.message.request.body)) _ a.1 in
        let c = both_true (is_wide q.message.kind) false b.1 in
        false_true c.1

-- where no trace has 128 items, no message is so long
pub not_long : (q : Asked) (lines : List Line) → length q.message.trace < 128 → ((e : Line) → In e lines → depth e < 128) → is_long q lines ≡ true → ⊥
not_long q lines short all e = elim (either_true (length q.message.trace == 128) (hears_by (λ x. depth x == 128) q lines) e) [
  | inl h ↦ (let n : length q.message.trace ≡ 128 = (Decides-eqb (length q.message.trace) 128).0 h in omega (arith, short, n))
  | inr h ↦ (let x = heard_line (λ y. depth y == 128) q lines h in let n : depth x.0 ≡ 128 = (Decides-eqb (depth x.0) 128).0 x.2 in let m = all x.0 x.1 in omega (arith, n, m))
]

other_error : (p : Point) (s : Scene) (q : Asked) (j : Journal) (reply : Reply) → Right p s q j reply → (x : DirError) → reply ≡ Failed x → is_service unavailable (Failed x) ≡ false → told (λ key. false) (tree_at p) q.message ≡ Refuses x
other_error p s q j reply (result on res no_update none) x e f = cc
other_error p s q j reply (changed on update some) x e f = cc
other_error p s q j reply (error {x = y} on t i n) x e f = (let same : y ≡ x = cc in t ∙ ap Refuses same)
other_error p s q j reply (referral v h n) x e f = cc
other_error p s q j reply (unheard {r = v} l h n) x e f = (let other : is_service unavailable (is_unavailable v) ≡ false = ap (is_service unavailable) e ∙ f in absurd (false_true (sym other)))

breaks_by : (p : Point) (s : Scene) (q : Asked) (j : Journal) (spent : Bool) (reply : Reply) → RightReply p s q j spent reply → (x : DirError) → reply ≡ Failed x → is_service unavailable (Failed x) ≡ false
    → (told (λ key. false) (tree_at p) q.message ≡ Refuses x → ⊥) → is_done q.message.progress ≡ true → (is_long q j.lines ≡ true → ⊥) → (Failed x ≡ limit_reply) × (spent ≡ true)
breaks_by p s q j spent reply (usual h right) x e f never done short = absurd (never (other_error p s q j reply right x e f))
breaks_by p s q j spent reply (unable h) x e f never done short = absurd (not_unable s q done h)
breaks_by p s q j spent reply (limit on h none) x e f never done short = (sym e, elim (either_true spent (is_long q j.lines) h) [ inl y ↦ y | inr y ↦ absurd (short y) ])

on_line : {from : Option ℕ} {r : Reference} {m : Chained} (o : Hand) (number : ℕ) → IsCarried from (line_for o) r m → IsCarried from (line_at o number) r m
on_line o number c = record {
  target_is = c.target_is;
  progress_is = c.progress_is;
  kind_is = c.kind_is;
  exclusions_are = c.exclusions_are;
  trace_is = c.trace_is;
  request_is = c.request_is;
}

pub part_breaks : PartBreaks
part_breaks p s most from o before after a b r x i j l other short loop one rest at may so =
    let n = next p s most from o before after a b r (Hears (Failed x)) i j l loop one rest at may so in (
      n.whole,
      n.by,
      elim n.taken [
        | inl t ↦ breaks_by p s (asked_line t.0 t.3.stood) l (is_spent most l) (Failed x) t.3.right x refl other
            (λ e. part_told p (line_at o at.line.number) from r t.0.message (λ key. false) x n.begins n.needed (on_line o at.line.number t.2) e)
            (ap is_done t.2.progress_is ∙ needed_done p (line_at o at.line.number) n.begins r n.needed)
            (not_long (asked_line t.0 t.3.stood) l.lines (short t.0 t.3.stands) short)
        | inr y ↦ ((let e : Failed x ≡ limit_reply = heard_is (Failed x) limit_reply y.0 in e), y.1)
      ],
    )
  where
    heard_is : (u v : Reply) → Hears u ≡ Hears v → u ≡ v
    heard_is u v e = cc
