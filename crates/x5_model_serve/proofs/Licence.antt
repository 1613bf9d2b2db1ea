-- The next message of a needed reference has its cause: its opener is at hand, the agents before it in the reference
-- were asked, and no line asks the same, since needed references are apart.
use Rattle.std.proofs.Common.{◌≡◌, ℕ, zero, suc, ◌+◌, ◌<◌, Bool, true, false, cond, not, ◌==◌, nat_lt, inl, inr, List, [], ◌∷◌, ◌++◌, length, take, slice_index, slice_index_or, refl, sym, ap, subst, ◌∙◌, arith, Option, Some, None, length-append}
use Rattle.std.proofs.lemmas.Bool.{eqb-true}
use Rattle.std.specs.Prelude.{IsTrue}
use Rattle.std.specs.List.{list_any, list_all, Contains}
use Rattle.x5_model.specs.Words.{first_of}
use Rattle.x5_model.specs.Members.{In, here, there, Once}
use Rattle.x5_model.specs.Values.{Name, key_of}
use Rattle.x5_model.specs.References.{Progress, Start, Next, Done, Reference, Chained}
use Rattle.x5_model.proofs.KeyLaws.{key_decides}
use Rattle.x5_model.proofs.Lists.{both_true, in_first, of_any, all_in}
use Rattle.x5_model.proofs.Decide.{nat_same_decides}
use Rattle.x5_model_run.specs.Journal.{Line, depth, same_sender, same_progress, same_name, same_message, item_of, settled, siblings}
use Rattle.x5_model_run.specs.Needs.{needs}
use Rattle.x5_model_run.specs.Chain.{Scene, AllLicensed, Caused, carried, IsCarried, begins, later, is_passed, is_fresh, request_for, is_user}
use Rattle.x5_model_run.proofs.Carrying.{is_carried, as_carried}
use Rattle.x5_model_run.proofs.Growing.{contains_more}
use Rattle.x5_model_serve.specs.Serving.{line_for, carried_for, next_line}
use Rattle.x5_model_serve.specs.Claims.{depth_at}
use Rattle.x5_model_serve.specs.Licensing.{NextIsLicensed}

contains_of : {X : Type 0} (xs : List X) (x : X) → In x xs → Contains xs x
contains_of [] x i = elim i [ ]
contains_of (x ∷ xs) _ here = (0, omega arith, refl)
contains_of (y ∷ xs) x (there i) = contains_more xs y x (contains_of xs x i)

of_index : {X : Type 0} (xs : List X) (i : ℕ) (x : X) → i < length xs → slice_index_or xs i x ≡ x → In x xs
of_index [] i x h e = absurd (omega arith)
of_index (y ∷ ys) zero x h e = subst (λ z. In z (y ∷ ys)) e here
of_index (y ∷ ys) (suc i) x h e = there (of_index ys i x (omega arith) e)

of_agents : (xs : List ℕ) (i x : ℕ) → i < length xs → slice_index xs i ≡ x → In x xs
of_agents [] i x h e = absurd (omega arith)
of_agents (y ∷ ys) zero x h e = subst (λ z. In z (y ∷ ys)) e here
of_agents (y ∷ ys) (suc i) x h e = there (of_agents ys i x (omega arith) e)

take_first : {X : Type 0} (xs ys : List X) → take (length xs) (xs ++ ys) ≡ xs
take_first [] ys = refl
take_first (x ∷ xs) ys = ap (λ zs. x ∷ zs) (take_first xs ys)

at_middle : (xs ys : List ℕ) (a : ℕ) → slice_index (xs ++ a ∷ ys) (length xs) ≡ a
at_middle [] ys a = refl
at_middle (x ∷ xs) ys a = at_middle xs ys a

middle : (us vs : List ℕ) (b : ℕ) → In b (us ++ b ∷ vs)
middle [] vs b = here
middle (u ∷ us) vs b = there (middle us vs b)

not_before : (xs ys : List ℕ) (a : ℕ) → Once (xs ++ a ∷ ys) → In a xs → ⊥
not_before [] ys a once i = elim i [ ]
not_before (x ∷ xs) ys _ once here = once.0 (middle xs ys x)
not_before (x ∷ xs) ys a once (there i) = not_before xs ys a once.1 i

same_progress_is : (p q : Progress) → p ≡ q → same_progress p q ≡ true
same_progress_is p q e = subst (λ x. same_progress p x ≡ true) e (itself p)
  where
    itself : (x : Progress) → same_progress x x ≡ true
    itself Start = refl
    itself (Next k) = (nat_same_decides k k).1 refl
    itself Done = refl

progress_of_same : (p q : Progress) → same_progress p q ≡ true → p ≡ q
progress_of_same Start Start e = refl
progress_of_same Start (Next k) e = cc
progress_of_same Start Done e = cc
progress_of_same (Next k) Start e = cc
progress_of_same (Next k) (Next j) e = ap Next ((nat_same_decides k j).0 e)
progress_of_same (Next k) Done e = cc
progress_of_same Done Start e = cc
progress_of_same Done (Next j) e = cc
progress_of_same Done Done e = refl

same_sender_is : (a b : Option ℕ) → a ≡ b → same_sender a b ≡ true
same_sender_is a b e = subst (λ x. same_sender a x ≡ true) e (itself a)
  where
    itself : (x : Option ℕ) → same_sender x x ≡ true
    itself None = refl
    itself (Some n) = (nat_same_decides n n).1 refl

name_is : (a b : Name) → same_name a b ≡ true → key_of a ≡ key_of b
name_is a b e = (key_decides (key_of a) (key_of b)).0 e

is_name : (a b : Name) → key_of a ≡ key_of b → same_name a b ≡ true
is_name a b e = (key_decides (key_of a) (key_of b)).1 e

-- what was sent for the line at hand was sent by a reference that it needs
pub record Sibling (s : Scene) (o e : Line) : Type 0 where
  pub reference : Reference
  pub needed : In reference (needs (s.holdings o.receiver) o.message)
  pub listed : In e.receiver reference.agents
  pub carried : IsCarried e.sender o reference e.message

pub siblings_follow : (s : Scene) (d : ℕ) (o : Line) (lines : List Line) → AllLicensed s lines → first_of (settled d lines) ≡ Some o → (e : Line) → In e (siblings d lines) → Sibling s o e
siblings_follow s d o [] all opens e i = elim i [ ]
siblings_follow s d o (l ∷ before) all opens e i =
    by (λ q k. siblings_follow s d o before all.1 q e k) (nat_lt d (depth l)) refl (depth l == d + 1) refl opens i
  where
    mine : (xs : List Line) (x : Line) → Caused s xs x → depth x ≡ d + 1 → first_of (settled d xs) ≡ Some o → Sibling s o x
    mine _ x (begins f) h q = cc
    mine xs x (later f fresh) h q =
        let a : f.above ≡ d = omega (arith, f.deeper, h) in
        let p : Some f.opener ≡ Some o = sym f.opens ∙ ap (λ n. first_of (settled n xs)) a ∙ q in
        let same : f.opener ≡ o = cc in
        subst (λ y. Sibling s y x) same (record {
          reference = f.reference;
          needed = of_index _ f.needed.0 f.reference f.needed.1 f.needed.2;
          listed = of_agents f.reference.agents f.turn.place x.receiver f.turn.inside f.turn.here;
          carried = as_carried x.sender f.opener f.reference x.message f.carries;
        })

    by : (first_of (settled d before) ≡ Some o → In e (siblings d before) → Sibling s o e) → (b : Bool) → nat_lt d (depth l) ≡ b → (c : Bool) → (depth l == d + 1) ≡ c → first_of (cond b (settled d before) (l ∷ before)) ≡ Some o → In e (cond b (cond c (l ∷ siblings d before) (siblings d before)) []) → Sibling s o e
    by rest true h true k q i =
        elim (in_first e l (siblings d before) i) [
          | inl same ↦ subst (λ x. Sibling s o x) (sym same) (mine before l all.0.cause (eqb-true _ _ k) q)
          | inr j ↦ rest q j
        ]
    by rest true h false k q i = rest q i
    by rest false h c k q i = elim i [ ]

carried_at : {from : Option ℕ} {r : Reference} {m : Chained} (o k : Line) → k.receiver ≡ o.receiver → k.message ≡ o.message → IsCarried from o r m → IsCarried from k r m
carried_at {from} {r} {m} o k er em c = record {
  target_is = c.target_is;
  progress_is = c.progress_is;
  kind_is = c.kind_is;
  exclusions_are = c.exclusions_are;
  trace_is = c.trace_is ∙ (λ i. (sym em i).trace ++ item_of (sym er i) (sym em i) ∷ []);
  request_is = c.request_is ∙ (λ i. request_for (is_user from) (sym em i).request m.target r);
}

pub next_is_licensed : NextIsLicensed
next_is_licensed p s from o r before after a j apart hand may split asked = record {
  number_is = refl;
  fate_is = refl;
  cause = later (record {
    above = depth_at o;
    opener = hand.line;
    reference = r;
    deeper = length-append o.message.trace _;
    opens = hand.at_hand;
    at_above = ap (λ (x : Chained). length x.trace) hand.message_is;
    arrived = hand.arrived;
    needed = contains_of _ r (subst (λ (x : ℕ). In r (needs (s.holdings x) hand.line.message)) (sym hand.receiver_is) (subst (λ (x : Chained). In r (needs (s.holdings o.receiver) x)) (sym hand.message_is) may.needed));
    carries = λ i. carried from (sym hand.receiver_is i) (sym hand.message_is i) r;
    sender_is = may.sender_is hand.line hand.at_hand;
    chains = may.chains l refl (is_carried from (line_for o) r);
    turn = record {
      place = length before;
      inside = subst (λ xs. length before < length xs) (sym split) (omega (arith, length-append before (a ∷ after)));
      here = ap (λ xs. slice_index xs (length before)) split ∙ at_middle before after a;
      earlier = subst (λ xs. list_all (is_passed s j.lines hand.line r) (take (length before) xs) ≡ true) (sym split) (subst (λ xs. list_all (is_passed s j.lines hand.line r) xs ≡ true) (sym (take_first before (a ∷ after))) (all_in _ before (λ b i. asked.passed hand.line hand.at_hand b i)));
    };
  }) (fresh tried (λ e i. i));
}
  where
    m : Chained
    m = carried_for from o r

    l : Line
    l = next_line s j from o r a

    tried : List Line
    tried = siblings (depth_at o) j.lines

    fresh : (xs : List Line) → ((e : Line) → In e xs → In e tried) → IsTrue (is_fresh xs l)
    fresh xs within = by (list_any (same_message l) xs) refl
      where
        repeated : (e : Line) → In e tried → same_message l e ≡ true → ⊥
        repeated e i same =
            let u = both_true _ _ same in
            let v = both_true _ _ u.1 in
            let f : Sibling s hand.line e = siblings_follow s (depth_at o) hand.line j.lines hand.licensed hand.at_hand e i in
            let n : In f.reference (needs (s.holdings o.receiver) o.message) = subst (λ (x : Chained). In f.reference (needs (s.holdings o.receiver) x)) hand.message_is (subst (λ (x : ℕ). In f.reference (needs (s.holdings x) hand.line.message)) hand.receiver_is f.needed) in
            let to : a ≡ e.receiver = eqb-true _ _ u.0 in
            let names : key_of f.reference.target ≡ key_of r.target = name_is _ _ f.carried.target_is ∙ sym (name_is _ _ v.1) in
            let steps : f.reference.progress ≡ r.progress = sym f.carried.progress_is ∙ sym (progress_of_same _ _ v.0) in
            let one : f.reference ≡ r = apart.unlike f.reference r a n may.needed (is_name _ _ names) (same_progress_is _ _ steps) (subst (λ x. In x f.reference.agents) (sym to) f.listed) (subst (λ xs. In a xs) (sym split) (middle before after a)) in
            not_before before after a (subst Once split (apart.agents r may.needed)) (subst (λ x. In x before) (sym to) (asked.only e i (subst (λ (q : Reference). In e.receiver q.agents) one f.listed) (subst (λ q. IsCarried e.sender (line_for o) q e.message) one (carried_at hand.line (line_for o) (sym hand.receiver_is) (sym hand.message_is) f.carried))))

        by : (b : Bool) → list_any (same_message l) xs ≡ b → not (list_any (same_message l) xs) ≡ true
        by true q = let x : _ = of_any (same_message l) xs q in absurd (repeated x.0 (within x.0 x.1) x.2)
        by false q = ap not q
