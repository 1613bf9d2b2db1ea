-- What fits the type of an agent's message is a value for whose parts the code has types.
use Rattle.std.proofs.Common.{◌≡◌, ℕ, zero, suc, ◌<◌, Bool, true, ℤ, pos, negsuc, List, [], ◌∷◌, refl, sym, ap, subst, ◌∙◌, arith}
use Rattle.std.specs.Prelude.{All}
use Rattle.std.specs.declared.option.Option.{Option}
use Rattle.std.specs.declared.option.Option.TheVariants.{None, Some}
use Rattle.x5_model_typed.specs.Nodes.{Node, Nodes, Number, Chosen, Many, Nil, More, parts}
use Rattle.x5_model_typed.specs.Named as named
use Rattle.x5_model_typed.specs.Forms.{Alternative, plain}
use Rattle.x5_model_typed.specs.Layouts as layouts
use Rattle.x5_model_typed.specs.Written.{can_hold, is_marked}
use Rattle.x5_model_typed_laws.specs.Fits.{Fits, FitsIn, whole, made, chosen, chosen_made}
use Rattle.x5_types.specs.FormView.{table}
use Rattle.x5_dapber.specs.Sayable.{IsCount, IsArgument}
use Rattle.x5_dapber.proofs.Fitting.{only, only_made, pair_in, sequence_in, set_in, found_is, required_in, optional_in, no_more}
use Rattle.x5_dapber.proofs.ReadIsSayable.{many_of, count_fits, small_count, code_below, number_or_zero, is_sequence, sequence_explicit, read_fits, compare_fits, list_fits, search_fits, add_fits, remove_fits, modify_fits, rename_fits}
use Rattle.x5_dapreply.specs.Sayable.{IsProgress, IsItem}
use Rattle.x5_dapreply.proofs.ReplyIsSayable.{progress_fits, item_fits, kind_fits, coded_in}
use Rattle.x5_dapreply.proofs.Sequences.{first_in}
use Rattle.x5_dspber.specs.Sayable.{IsChaining, IsCarried, IsChained}

-- nothing is asked
abbrev anything : Node → Type 0
anything n = Unit {0}

trace_fits : (n : Node) → Fits table (table named.Trace) n → All IsItem (parts n)
trace_fits n f = many_of named.TraceItem IsItem item_fits n (only_made table _ n refl (λ m. refl) f)

chaining_fits : (n : Node) → Fits table (table named.Chaining) n → IsChaining n
chaining_fits n f =
    let m = only_made table _ n refl (λ x. refl) f in
    let a = required_in table 0 named.Name _ anything (λ x g. tt) m.members (set_in table _ m.members m.within) in
    let b = required_in table 1 named.Progress _ IsProgress progress_fits a.others a.rest in
    let c = required_in table 2 named.Trace _ (λ x. All IsItem (parts x)) trace_fits b.others b.rest in
    let d = required_in table 3 named.RefType _ IsCount kind_fits c.others c.rest in
    let e = optional_in table (Many Nil) 4 named.Rdns [] anything tt (λ x g. tt) d.others d.rest in
    let is : n ≡ Many (More a.first (More b.first (More c.first (More d.first (More e.first Nil))))) =
    m.is_many ∙ ap Many (a.split ∙ ap (More a.first) (b.split ∙ ap (More b.first) (c.split ∙ ap (More c.first)
    (d.split ∙ ap (More d.first) (e.split ∙ ap (More e.first) (no_more table e.others e.rest)))))) in
    subst IsChaining (sym is) (b.is, c.is, d.is)

-- with the argument of the operation
carried_fits : (o : named.Operation) (k : ℕ) → ((n : Node) → Fits table (table (named.Argument o)) n → IsArgument k n) → (n : Node)
    → Fits table (table (named.Chained o)) n → IsCarried k n
carried_fits o k of n f =
    let m = only_made table (layouts.sequence (plain named.Chaining ∷ plain (named.Argument o) ∷ [])) n refl (λ x. refl) f in
    let two = pair_in table named.Chaining (named.Argument o) m.members (sequence_in table _ m.members m.within) in
    let is : n ≡ Many (More two.first (More two.second Nil)) = m.is_many ∙ ap Many two.split in
    subst (IsCarried k) (sym is) (chaining_fits two.first two.fits_first, of two.second two.fits_second)

-- ---- messages

abbrev pub codes : ℤ → Option named.Named
codes = layouts.named_by (layouts.operation_codes named.Chained)

coded_fits : (k : ℤ) (form : named.Named) (n : Node) → codes k ≡ Some form → Fits table (table form) n
    → IsCount (Number k) × IsCarried (number_or_zero k) n
coded_fits (negsuc m) form n e f = absurd (cc e)
coded_fits (pos zero) form n e f = absurd (cc e)
coded_fits (pos (suc zero)) form n e f =
    let same : form ≡ named.Chained named.Read = cc in
    (small_count 1 (omega arith), carried_fits named.Read 1 read_fits n (subst (λ (x : named.Named). Fits table (table x) n) same f))
coded_fits (pos (suc (suc zero))) form n e f =
    let same : form ≡ named.Chained named.Compare = cc in
    (small_count 2 (omega arith), carried_fits named.Compare 2 compare_fits n (subst (λ (x : named.Named). Fits table (table x) n) same f))
coded_fits (pos (suc (suc (suc zero)))) form n e f = absurd (cc e)
coded_fits (pos (suc (suc (suc (suc zero))))) form n e f =
    let same : form ≡ named.Chained named.ListBelow = cc in
    (small_count 4 (omega arith), carried_fits named.ListBelow 4 list_fits n (subst (λ (x : named.Named). Fits table (table x) n) same f))
coded_fits (pos (suc (suc (suc (suc (suc zero)))))) form n e f =
    let same : form ≡ named.Chained named.Search = cc in
    (small_count 5 (omega arith), carried_fits named.Search 5 search_fits n (subst (λ (x : named.Named). Fits table (table x) n) same f))
coded_fits (pos (suc (suc (suc (suc (suc (suc zero))))))) form n e f =
    let same : form ≡ named.Chained named.AddEntry = cc in
    (small_count 6 (omega arith), carried_fits named.AddEntry 6 add_fits n (subst (λ (x : named.Named). Fits table (table x) n) same f))
coded_fits (pos (suc (suc (suc (suc (suc (suc (suc zero)))))))) form n e f =
    let same : form ≡ named.Chained named.RemoveEntry = cc in
    (small_count 7 (omega arith), carried_fits named.RemoveEntry 7 remove_fits n (subst (λ (x : named.Named). Fits table (table x) n) same f))
coded_fits (pos (suc (suc (suc (suc (suc (suc (suc (suc zero))))))))) form n e f =
    let same : form ≡ named.Chained named.ModifyEntry = cc in
    (small_count 8 (omega arith), carried_fits named.ModifyEntry 8 modify_fits n (subst (λ (x : named.Named). Fits table (table x) n) same f))
coded_fits (pos (suc (suc (suc (suc (suc (suc (suc (suc (suc zero)))))))))) form n e f =
    let same : form ≡ named.Chained named.ModifyDn = cc in
    (small_count 9 (omega arith), carried_fits named.ModifyDn 9 rename_fits n (subst (λ (x : named.Named). Fits table (table x) n) same f))
coded_fits (pos (suc (suc (suc (suc (suc (suc (suc (suc (suc (suc m))))))))))) form n e f =
    absurd (omega (arith, code_below (layouts.operation_codes named.Chained) (suc (suc (suc (suc (suc (suc (suc (suc (suc (suc m)))))))))) 10 form refl e))

pub record IsInvoke (ns : Nodes) : Type 0 where
  pub id : Node
  pub operation : ℤ
  pub carried : Node
  pub split : ns ≡ More id (More (Number operation) (More carried Nil))
  pub id_is : IsCount id
  pub form : named.Named
  pub names : codes operation ≡ Some form
  pub fits_carried : Fits table (table form) carried

abbrev invoke : Alternative
invoke = layouts.invoke (layouts.operation_codes named.Chained)

invoke_in : (ns : Nodes) → FitsIn table (invoke.content) ns → IsInvoke ns
invoke_in ns f =
    let i = first_in table (named.NumberBelow 0 4294967295) _ IsCount (count_fits 4294967295 (omega arith)) ns (sequence_in table _ ns f) in
    let c = coded_in codes i.others i.rest in
    record {
      id = i.first;
      operation = c.operation;
      carried = c.said;
      split = i.split ∙ ap (More i.first) c.split;
      id_is = i.is;
      form = c.form;
      names = c.names_it;
      fits_carried = c.fits_said;
    }

-- what fits is an invoke
pub record IsInvoked (n : Node) : Type 0 where
  pub tag : ℕ
  pub members : Nodes
  pub is : n ≡ Chosen tag (Many members)
  pub invoked : IsInvoke members

pub invoke_of : (n : Node) → Fits table (table named.DspRequest) n → IsInvoked n
invoke_of n (whole a octets free held unmarked writes settles) =
    let m : a.marked ≡ true = found_is (λ x. x.marked) (can_hold n) (table named.DspRequest) a refl held in
    absurd (cc (unmarked, m))
invoke_of _ (made {ns} a held unmarked empty inside settles) =
    let m : a.marked ≡ true = found_is (λ x. x.marked) (can_hold (Many ns)) (table named.DspRequest) a refl held in
    absurd (cc (unmarked, m))
invoke_of _ (chosen a tag form found c f settles) =
    absurd (sequence_explicit a.content form (found_is (λ x. is_sequence x.content) (is_marked tag) (table named.DspRequest) a refl found) c)
invoke_of _ (chosen_made {ns} a tag found inside settles) =
    let same : a ≡ invoke = only invoke a (is_marked tag invoke) found in
    record {
      tag = tag;
      members = ns;
      is = refl;
      invoked = invoke_in ns (subst (λ (x : Alternative). FitsIn table x.content ns) same inside);
    }

pub chained_fits : (n : Node) → Fits table (table named.DspRequest) n → IsChained n
chained_fits n f =
    let o = invoke_of n f in
    let i = o.invoked in
    let both = coded_fits i.operation i.form i.carried i.names i.fits_carried in
    subst IsChained (sym (o.is ∙ ap (λ (x : Nodes). Chosen o.tag (Many x)) i.split)) (i.id_is, both.0, both.1)
