-- What fits the type of an answer to a user is a value for whose parts the code has types.
use Rattle.std.proofs.Common.{◌≡◌, ℕ, zero, suc, ◌<◌, ◌≤◌, ◌^◌, ℤ, pos, negsuc, Bool, true, false, cond, ◌&&◌, ◌==◌, nat_le, nat_lt, List, [], ◌∷◌, refl, sym, ap, subst, ◌∙◌, arith}
use Rattle.std.specs.Prelude.{All, ◌||◌}
use Rattle.std.specs.List.{find, list_all, list_any}
use Rattle.std.proofs.lemmas.Bool.{leb-true, eqb-true}
use Rattle.std.proofs.lemmas.List.Elements.{All-nil}
use Rattle.std.specs.declared.option.Option.{Option}
use Rattle.std.specs.declared.option.Option.TheVariants.{None, Some}
use Rattle.x5_model.proofs.Lists.{both_true}
use Rattle.x5_model_typed.specs.Nodes as nodes
use Rattle.x5_model_typed.specs.Nodes.{Node, Nodes, Vacant, Flag, Number, Oid, Bits, Octets, Chosen, Many, Nil, More, parts}
use Rattle.x5_model_typed.specs.Named as named
use Rattle.x5_model_typed.specs.Forms.{Primitive, Content, Explicit, Sequence, Alternative, universal, plain, at, code}
use Rattle.x5_model_typed.specs.Leaves.{from_to, one_of, is_short_number, number, number_octets, null}
use Rattle.x5_model_typed.specs.Layouts as layouts
use Rattle.x5_model_typed.specs.Typed.{named, required}
use Rattle.x5_model_typed.specs.Written.{can_hold, is_marked}
use Rattle.x5_model_typed_laws.specs.Fits.{Fits, FitsIn, FitsSequence, left_out, given, over, whole, made, chosen, chosen_made}
use Rattle.x5_model_messages.specs.Terms.{number_in}
use Rattle.x5_types.specs.FormView.{table}
use Rattle.x5_dapber.specs.Sayable.{IsType, IsAttribute, IsCount}
use Rattle.x5_dapber.proofs.Fitting.{so, only_made, pair_in, sequence_in, set_in, only_leaf, found_is, tag_below, required_in, optional_in, no_more}
use Rattle.x5_dapber.proofs.ReadIsSayable.{type_fits, many_of, attributes_fit, count_fits, no_count, small_count, code_below, number_or_zero, is_sequence, sequence_explicit}
use Rattle.x5_dapreply.specs.Sayable.{IsSmall, IsProgress, IsAccess, IsReference, IsItem, IsSource, IsInfo, IsSub, IsOutcome, AreResult, IsReferenceIf, IsItemIf, IsError, IsResult, IsReply}
use Rattle.x5_dapreply.proofs.Sequences.{first_in, maybe_in, none_left}

-- nothing is asked
abbrev anything : Node → Type 0
anything n = Unit {0}

-- ---- numbers

abbrev Below : ℕ → Node → Type 0
Below bound n = (k : ℕ) → number_in n ≡ Some k → k < bound

below_writes : (low high bound : ℕ) → high < bound → (n : Node) (octets : List ℕ)
    → (number (from_to low high)).writes n ≡ Some octets → Below bound n
below_writes low high bound small (Number (pos m)) octets h = λ k e.
    let b = so (is_short_number (pos m) && (nat_le low m && nat_le m high)) (number_octets (pos m)) octets h in
    let w = both_true (is_short_number (pos m)) (nat_le low m && nat_le m high) b in
    let v = both_true (nat_le low m) (nat_le m high) w.1 in
    let le : m ≤ high = leb-true m high v.1 in
    let same : m ≡ k = cc in
    subst (λ (x : ℕ). x < bound) same (omega (arith, le, small))
below_writes low high bound small (Number (negsuc m)) octets h = λ k e. absurd (cc e)
below_writes low high bound small Vacant octets h = absurd (cc h)
below_writes low high bound small (Flag b) octets h = absurd (cc h)
below_writes low high bound small (Oid arcs) octets h = absurd (cc h)
below_writes low high bound small (Bits b) octets h = absurd (cc h)
below_writes low high bound small (Octets o) octets h = absurd (cc h)
below_writes low high bound small (nodes.Text t) octets h = absurd (cc h)
below_writes low high bound small (Chosen tag n) octets h = absurd (cc h)
below_writes low high bound small (Many ns) octets h = absurd (cc h)

number_fits : (low high bound : ℕ) → high < bound → (n : Node) → Fits table (table (named.NumberBelow low high)) n → Below bound n
number_fits low high bound small n f =
    let w = only_leaf table 2 (number (from_to low high)) n f in below_writes low high bound small n w.0 w.1

phase_fits : (n : Node) → Fits table (table (named.Enumeration 1 3)) n → IsCount n
phase_fits n f =
    let w = only_leaf table 10 (number (from_to 1 3)) n f in below_writes 1 3 (2 ^ 32) (omega arith) n w.0 w.1

one_below : (x : ℕ) (ks : List ℕ) (m bound : ℕ) (b : Bool) → (x == m) ≡ b → x < bound
    → (b || list_any (λ k. k == m) ks) ≡ true → (list_any (λ k. k == m) ks ≡ true → m < bound) → m < bound
one_below x ks m bound true e low h later = (let same : x ≡ m = eqb-true x m e in omega (arith, low, same))
one_below x ks m bound false e low h later = later h

any_below : (ks : List ℕ) (m bound : ℕ) → list_all (λ k. nat_lt k bound) ks ≡ true → list_any (λ k. k == m) ks ≡ true → m < bound
any_below [] m bound all h = absurd (cc h)
any_below (x ∷ ks) m bound all h =
    let w = both_true (nat_lt x bound) (list_all (λ (k : ℕ). nat_lt k bound) ks) all in
    one_below x ks m bound (x == m) refl (leb-true (suc x) bound w.0) h (any_below ks m bound w.1)

kind_writes : (n : Node) (octets : List ℕ) → (number (one_of (1 ∷ 2 ∷ 3 ∷ 4 ∷ 5 ∷ 8 ∷ []))).writes n ≡ Some octets → IsCount n
kind_writes (Number (pos m)) octets h = λ k e.
    let is_one = one_of (1 ∷ 2 ∷ 3 ∷ 4 ∷ 5 ∷ 8 ∷ []) (pos m) in
    let b = so (is_short_number (pos m) && is_one) (number_octets (pos m)) octets h in
    let same : m ≡ k = cc in
    subst (λ (x : ℕ). x < 2 ^ 32) same
    (any_below (1 ∷ 2 ∷ 3 ∷ 4 ∷ 5 ∷ 8 ∷ []) m (2 ^ 32) refl (both_true (is_short_number (pos m)) is_one b).1)
kind_writes (Number (negsuc m)) octets h = λ k e. absurd (cc e)
kind_writes Vacant octets h = absurd (cc h)
kind_writes (Flag b) octets h = absurd (cc h)
kind_writes (Oid arcs) octets h = absurd (cc h)
kind_writes (Bits b) octets h = absurd (cc h)
kind_writes (Octets o) octets h = absurd (cc h)
kind_writes (nodes.Text t) octets h = absurd (cc h)
kind_writes (Chosen tag n) octets h = absurd (cc h)
kind_writes (Many ns) octets h = absurd (cc h)

pub kind_fits : (n : Node) → Fits table (table named.RefType) n → IsCount n
kind_fits n f =
    let w = only_leaf table 2 (number (one_of (1 ∷ 2 ∷ 3 ∷ 4 ∷ 5 ∷ 8 ∷ []))) n f in kind_writes n w.0 w.1

-- ---- references, trace items and sources

pub progress_fits : (n : Node) → Fits table (table named.Progress) n → IsProgress n
progress_fits n f =
    let m = only_made table _ n refl (λ x. refl) f in
    let a = first_in table (named.Enumeration 1 3) _ IsCount phase_fits m.members (sequence_in table _ m.members m.within) in
    let b = maybe_in table Vacant (plain (named.NumberBelow 1 16)) [] IsSmall (λ k e. absurd (cc e))
    (number_fits 1 16 (2 ^ 8) (omega arith)) a.others a.rest in
    let is : n ≡ Many (More a.first (More b.first Nil)) =
    m.is_many ∙ ap Many (a.split ∙ ap (More a.first) (b.split ∙ ap (More b.first) (none_left table b.others b.rest))) in
    subst IsProgress (sym is) (a.is, b.is)

access_fits : (n : Node) → Fits table (table named.Agent) n → IsAccess n
access_fits n f =
    let m = only_made table _ n refl (λ x. refl) f in
    let a = first_in table named.AgentName _ anything (λ x g. tt) m.members (sequence_in table _ m.members m.within) in
    let b = maybe_in table (Flag false) (plain named.Boolean) [] anything tt (λ x g. tt) a.others a.rest in
    let is : n ≡ Many (More a.first (More b.first Nil)) =
    m.is_many ∙ ap Many (a.split ∙ ap (More a.first) (b.split ∙ ap (More b.first) (none_left table b.others b.rest))) in
    subst IsAccess (sym is) tt

accesses_fit : (n : Node) → Fits table (table named.Agents) n → All IsAccess (parts n)
accesses_fit n f = many_of named.Agent IsAccess access_fits n (only_made table _ n refl (λ m. refl) f)

pub reference_fits : (n : Node) → Fits table (table named.Reference) n → IsReference n
reference_fits n f =
    let m = only_made table _ n refl (λ x. refl) f in
    let a = required_in table 0 named.Name _ anything (λ x g. tt) m.members (set_in table _ m.members m.within) in
    let b = required_in table 1 named.Progress _ IsProgress progress_fits a.others a.rest in
    let c = required_in table 2 named.RefType _ IsCount kind_fits b.others b.rest in
    let d = required_in table 3 named.Agents _ (λ x. All IsAccess (parts x)) accesses_fit c.others c.rest in
    let e = optional_in table (Many Nil) 4 named.Rdns _ anything tt (λ x g. tt) d.others d.rest in
    let g = optional_in table (Flag false) 5 named.Boolean [] anything tt (λ x h. tt) e.others e.rest in
    let is : n ≡ Many (More a.first (More b.first (More c.first (More d.first (More e.first (More g.first Nil)))))) =
    m.is_many ∙ ap Many (a.split ∙ ap (More a.first) (b.split ∙ ap (More b.first) (c.split ∙ ap (More c.first)
    (d.split ∙ ap (More d.first) (e.split ∙ ap (More e.first) (g.split ∙ ap (More g.first) (no_more table g.others g.rest))))))) in
    subst IsReference (sym is) (b.is, c.is, d.is)

references_fit : (n : Node) → Fits table (table named.References) n → All IsReference (parts n)
references_fit n f = many_of named.Reference IsReference reference_fits n (only_made table _ n refl (λ m. refl) f)

pub item_fits : (n : Node) → Fits table (table named.TraceItem) n → IsItem n
item_fits n f =
    let m = only_made table _ n refl (λ x. refl) f in
    let a = first_in table named.AgentName _ anything (λ x g. tt) m.members (sequence_in table _ m.members m.within) in
    let b = first_in table named.Name _ anything (λ x g. tt) a.others a.rest in
    let c = first_in table named.Progress _ IsProgress progress_fits b.others b.rest in
    let d = maybe_in table (Flag false) (plain named.Boolean) [] anything tt (λ x g. tt) c.others c.rest in
    let is : n ≡ Many (More a.first (More b.first (More c.first (More d.first Nil)))) =
    m.is_many ∙ ap Many (a.split ∙ ap (More a.first) (b.split ∙ ap (More b.first) (c.split ∙ ap (More c.first)
    (d.split ∙ ap (More d.first) (none_left table d.others d.rest))))) in
    subst IsItem (sym is) c.is

source_fits : (n : Node) → Fits table (table named.Source) n → IsSource n
source_fits n f =
    let m = only_made table _ n refl (λ x. refl) f in
    let a = first_in table named.Name _ anything (λ x g. tt) m.members (sequence_in table _ m.members m.within) in
    let b = first_in table named.AgentName _ anything (λ x g. tt) a.others a.rest in
    let c = maybe_in table Vacant (plain (named.NumberBelow 0 4294967295)) [] IsCount no_count
    (count_fits 4294967295 (omega arith)) b.others b.rest in
    let is : n ≡ Many (More a.first (More b.first (More c.first Nil))) =
    m.is_many ∙ ap Many (a.split ∙ ap (More a.first) (b.split ∙ ap (More b.first) (c.split ∙ ap (More c.first)
    (none_left table c.others c.rest)))) in
    subst IsSource (sym is) c.is

sources_fit : (n : Node) → Fits table (table named.Sources) n → All IsSource (parts n)
sources_fit n f = many_of named.Source IsSource source_fits n (only_made table _ n refl (λ m. refl) f)

-- ---- results

info_fits : (n : Node) → Fits table (table named.EntryInfo) n → IsInfo n
info_fits n f =
    let m = only_made table _ n refl (λ x. refl) f in
    let a = first_in table named.Name _ anything (λ x g. tt) m.members (sequence_in table _ m.members m.within) in
    let b = maybe_in table (Flag true) (plain named.Boolean) _ anything tt (λ x g. tt) a.others a.rest in
    let c = first_in table named.Attributes [] (λ x. All IsAttribute (parts x)) attributes_fit b.others b.rest in
    let is : n ≡ Many (More a.first (More b.first (More c.first Nil))) =
    m.is_many ∙ ap Many (a.split ∙ ap (More a.first) (b.split ∙ ap (More b.first) (c.split ∙ ap (More c.first)
    (none_left table c.others c.rest)))) in
    subst IsInfo (sym is) c.is

infos_fit : (n : Node) → Fits table (table named.EntryInfos) n → All IsInfo (parts n)
infos_fit n f = many_of named.EntryInfo IsInfo info_fits n (only_made table _ n refl (λ m. refl) f)

sub_fits : (n : Node) → Fits table (table named.Sub) n → IsSub n
sub_fits n f =
    let m = only_made table _ n refl (λ x. refl) f in
    let a = first_in table named.Rdn _ anything (λ x g. tt) m.members (sequence_in table _ m.members m.within) in
    let b = maybe_in table (Flag true) (plain named.Boolean) [] anything tt (λ x g. tt) a.others a.rest in
    let is : n ≡ Many (More a.first (More b.first Nil)) =
    m.is_many ∙ ap Many (a.split ∙ ap (More a.first) (b.split ∙ ap (More b.first) (none_left table b.others b.rest))) in
    subst IsSub (sym is) tt

subs_fit : (n : Node) → Fits table (table named.Subs) n → All IsSub (parts n)
subs_fit n f = many_of named.Sub IsSub sub_fits n (only_made table _ n refl (λ m. refl) f)

outcome_fits : (n : Node) → Fits table (table named.Qualifier) n → IsOutcome n
outcome_fits n f =
    let m = only_made table _ n refl (λ x. refl) f in
    let a = optional_in table Vacant 0 (named.NumberBelow 1 1) _ IsCount no_count (number_fits 1 1 (2 ^ 32) (omega arith))
    m.members (set_in table _ m.members m.within) in
    let b = optional_in table (Many Nil) 1 named.References [] (λ x. All IsReference (parts x)) (All-nil IsReference)
    references_fit a.others a.rest in
    let is : n ≡ Many (More a.first (More b.first Nil)) =
    m.is_many ∙ ap Many (a.split ∙ ap (More a.first) (b.split ∙ ap (More b.first) (no_more table b.others b.rest))) in
    subst IsOutcome (sym is) (a.is, b.is)

abbrev IsResultOf : ℕ → Node → Type 0
IsResultOf code n = AreResult code (parts n)

read_fits : (n : Node) → Fits table (table (named.Outcome named.Read)) n → IsResultOf 1 n
read_fits n f =
    let m = only_made table _ n refl (λ x. refl) f in
    let a = required_in table 0 named.EntryInfo _ IsInfo info_fits m.members (set_in table _ m.members m.within) in
    let b = required_in table 1 named.Source [] IsSource source_fits a.others a.rest in
    let is : n ≡ Many (More a.first (More b.first Nil)) =
    m.is_many ∙ ap Many (a.split ∙ ap (More a.first) (b.split ∙ ap (More b.first) (no_more table b.others b.rest))) in
    subst (IsResultOf 1) (sym is) (a.is, b.is)

compare_fits : (n : Node) → Fits table (table (named.Outcome named.Compare)) n → IsResultOf 2 n
compare_fits n f =
    let m = only_made table _ n refl (λ x. refl) f in
    let a = required_in table 0 named.Boolean _ anything (λ x g. tt) m.members (set_in table _ m.members m.within) in
    let b = optional_in table (Flag true) 1 named.Boolean _ anything tt (λ x g. tt) a.others a.rest in
    let c = required_in table 2 named.Source [] IsSource source_fits b.others b.rest in
    let is : n ≡ Many (More a.first (More b.first (More c.first Nil))) =
    m.is_many ∙ ap Many (a.split ∙ ap (More a.first) (b.split ∙ ap (More b.first) (c.split ∙ ap (More c.first)
    (no_more table c.others c.rest)))) in
    subst (IsResultOf 2) (sym is) c.is

list_fits : (n : Node) → Fits table (table (named.Outcome named.ListBelow)) n → IsResultOf 4 n
list_fits n f =
    let m = only_made table _ n refl (λ x. refl) f in
    let a = required_in table 0 named.Subs _ (λ x. All IsSub (parts x)) subs_fit m.members (set_in table _ m.members m.within) in
    let b = required_in table 1 named.Sources _ (λ x. All IsSource (parts x)) sources_fit a.others a.rest in
    let c = optional_in table layouts.no_qualifier 2 named.Qualifier [] IsOutcome (no_count, All-nil IsReference) outcome_fits b.others b.rest in
    let is : n ≡ Many (More a.first (More b.first (More c.first Nil))) =
    m.is_many ∙ ap Many (a.split ∙ ap (More a.first) (b.split ∙ ap (More b.first) (c.split ∙ ap (More c.first)
    (no_more table c.others c.rest)))) in
    subst (IsResultOf 4) (sym is) (a.is, b.is, c.is)

search_fits : (n : Node) → Fits table (table (named.Outcome named.Search)) n → IsResultOf 5 n
search_fits n f =
    let m = only_made table _ n refl (λ x. refl) f in
    let a = required_in table 0 named.EntryInfos _ (λ x. All IsInfo (parts x)) infos_fit m.members (set_in table _ m.members m.within) in
    let b = required_in table 1 named.Sources _ (λ x. All IsSource (parts x)) sources_fit a.others a.rest in
    let c = optional_in table layouts.no_qualifier 2 named.Qualifier [] IsOutcome (no_count, All-nil IsReference) outcome_fits b.others b.rest in
    let is : n ≡ Many (More a.first (More b.first (More c.first Nil))) =
    m.is_many ∙ ap Many (a.split ∙ ap (More a.first) (b.split ∙ ap (More b.first) (c.split ∙ ap (More c.first)
    (no_more table c.others c.rest)))) in
    subst (IsResultOf 5) (sym is) (a.is, b.is, c.is)

null_writes : (code : ℕ) (n : Node) (octets : List ℕ) → null.writes n ≡ Some octets → IsResultOf code n
null_writes code Vacant octets h = tt
null_writes code (Flag b) octets h = absurd (cc h)
null_writes code (Number k) octets h = absurd (cc h)
null_writes code (Oid arcs) octets h = absurd (cc h)
null_writes code (Bits b) octets h = absurd (cc h)
null_writes code (Octets o) octets h = absurd (cc h)
null_writes code (nodes.Text t) octets h = absurd (cc h)
null_writes code (Chosen tag n) octets h = absurd (cc h)
null_writes code (Many ns) octets h = absurd (cc h)

null_fits : (code : ℕ) (n : Node) → Fits table (universal 5 (Primitive null) ∷ []) n → IsResultOf code n
null_fits code n f = (let w = only_leaf table 5 null n f in null_writes code n w.0 w.1)

abbrev result_codes : ℤ → Option named.Named
result_codes = layouts.named_by (layouts.operation_codes named.Outcome)

result_fits : (k : ℤ) (form : named.Named) (n : Node) → result_codes k ≡ Some form → Fits table (table form) n
    → IsCount (Number k) × IsResultOf (number_or_zero k) n
result_fits (negsuc m) form n e f = absurd (cc e)
result_fits (pos zero) form n e f = absurd (cc e)
result_fits (pos (suc zero)) form n e f =
    let same : form ≡ named.Outcome named.Read = cc in
    (small_count 1 (omega arith), read_fits n (subst (λ (x : named.Named). Fits table (table x) n) same f))
result_fits (pos (suc (suc zero))) form n e f =
    let same : form ≡ named.Outcome named.Compare = cc in
    (small_count 2 (omega arith), compare_fits n (subst (λ (x : named.Named). Fits table (table x) n) same f))
result_fits (pos (suc (suc (suc zero)))) form n e f = absurd (cc e)
result_fits (pos (suc (suc (suc (suc zero))))) form n e f =
    let same : form ≡ named.Outcome named.ListBelow = cc in
    (small_count 4 (omega arith), list_fits n (subst (λ (x : named.Named). Fits table (table x) n) same f))
result_fits (pos (suc (suc (suc (suc (suc zero)))))) form n e f =
    let same : form ≡ named.Outcome named.Search = cc in
    (small_count 5 (omega arith), search_fits n (subst (λ (x : named.Named). Fits table (table x) n) same f))
result_fits (pos (suc (suc (suc (suc (suc (suc zero))))))) form n e f =
    let same : form ≡ named.Outcome named.AddEntry = cc in
    (small_count 6 (omega arith), null_fits 6 n (subst (λ (x : named.Named). Fits table (table x) n) same f))
result_fits (pos (suc (suc (suc (suc (suc (suc (suc zero)))))))) form n e f =
    let same : form ≡ named.Outcome named.RemoveEntry = cc in
    (small_count 7 (omega arith), null_fits 7 n (subst (λ (x : named.Named). Fits table (table x) n) same f))
result_fits (pos (suc (suc (suc (suc (suc (suc (suc (suc zero))))))))) form n e f =
    let same : form ≡ named.Outcome named.ModifyEntry = cc in
    (small_count 8 (omega arith), null_fits 8 n (subst (λ (x : named.Named). Fits table (table x) n) same f))
result_fits (pos (suc (suc (suc (suc (suc (suc (suc (suc (suc zero)))))))))) form n e f =
    let same : form ≡ named.Outcome named.ModifyDn = cc in
    (small_count 9 (omega arith), null_fits 9 n (subst (λ (x : named.Named). Fits table (table x) n) same f))
result_fits (pos (suc (suc (suc (suc (suc (suc (suc (suc (suc (suc m))))))))))) form n e f =
    absurd (omega (arith, code_below (layouts.operation_codes named.Outcome) (suc (suc (suc (suc (suc (suc (suc (suc (suc (suc m)))))))))) 10 form refl e))

-- ---- errors

reference_if : (n : Node) → IsReference n → IsReferenceIf n
reference_if Vacant h = tt
reference_if (Flag b) h = h
reference_if (Number k) h = h
reference_if (Oid arcs) h = h
reference_if (Bits b) h = h
reference_if (Octets o) h = h
reference_if (nodes.Text t) h = h
reference_if (Chosen tag n) h = h
reference_if (Many ns) h = h

item_if : (n : Node) → IsItem n → IsItemIf n
item_if Vacant h = tt
item_if (Flag b) h = h
item_if (Number k) h = h
item_if (Oid arcs) h = h
item_if (Bits b) h = h
item_if (Octets o) h = h
item_if (nodes.Text t) h = h
item_if (Chosen tag n) h = h
item_if (Many ns) h = h

pub attribute_error : (n : Node) → Fits table (table named.AttributeError) n → IsError 1 n
attribute_error n f =
    let m = only_made table _ n refl (λ x. refl) f in
    let a = first_in table (named.NumberBelow 1 6) _ IsSmall (number_fits 1 6 (2 ^ 8) (omega arith)) m.members
    (sequence_in table _ m.members m.within) in
    let b = first_in table named.AnyOid [] IsType type_fits a.others a.rest in
    let is : n ≡ Many (More a.first (More b.first Nil)) =
    m.is_many ∙ ap Many (a.split ∙ ap (More a.first) (b.split ∙ ap (More b.first) (none_left table b.others b.rest))) in
    subst (IsError 1) (sym is) (a.is, b.is)

pub name_error : (n : Node) → Fits table (table named.NameError) n → IsError 2 n
name_error n f =
    let m = only_made table _ n refl (λ x. refl) f in
    let a = first_in table (named.NumberBelow 1 1) _ IsSmall (number_fits 1 1 (2 ^ 8) (omega arith)) m.members
    (sequence_in table _ m.members m.within) in
    let b = first_in table named.Name [] anything (λ x g. tt) a.others a.rest in
    let is : n ≡ Many (More a.first (More b.first Nil)) =
    m.is_many ∙ ap Many (a.split ∙ ap (More a.first) (b.split ∙ ap (More b.first) (none_left table b.others b.rest))) in
    subst (IsError 2) (sym is) (a.is, tt)

pub service_error : (n : Node) → Fits table (table named.ServiceError) n → IsError 3 n
service_error n f =
    let m = only_made table _ n refl (λ x. refl) f in
    let a = first_in table (named.NumberBelow 1 12) _ IsSmall (number_fits 1 12 (2 ^ 8) (omega arith)) m.members
    (sequence_in table _ m.members m.within) in
    let b = maybe_in table Vacant (at 0 named.Reference) _ IsReferenceIf tt (λ x g. reference_if x (reference_fits x g)) a.others a.rest in
    let c = maybe_in table Vacant (at 1 named.TraceItem) [] IsItemIf tt (λ x g. item_if x (item_fits x g)) b.others b.rest in
    let is : n ≡ Many (More a.first (More b.first (More c.first Nil))) =
    m.is_many ∙ ap Many (a.split ∙ ap (More a.first) (b.split ∙ ap (More b.first) (c.split ∙ ap (More c.first)
    (none_left table c.others c.rest)))) in
    subst (IsError 3) (sym is) (a.is, b.is, c.is)

-- a reference has six components
pub referred : (code : ℕ) (n : Node) → IsReference n → IsError code n
referred code (Many (More a (More b (More c (More d ns))))) h = h
referred code (Many (More a (More b (More c Nil)))) h = absurd h
referred code (Many (More a (More b Nil))) h = absurd h
referred code (Many (More a Nil)) h = absurd h
referred code (Many Nil) h = h
referred code Vacant h = h
referred code (Flag b) h = h
referred code (Number k) h = h
referred code (Oid arcs) h = h
referred code (Bits b) h = h
referred code (Octets o) h = h
referred code (nodes.Text t) h = h
referred code (Chosen tag n) h = h

pub update_error : (n : Node) → Fits table (table named.UpdateError) n → IsError 8 n
update_error n f =
    let m = only_made table _ n refl (λ x. refl) f in
    let a = first_in table (named.NumberBelow 1 7) [] IsSmall (number_fits 1 7 (2 ^ 8) (omega arith)) m.members
    (sequence_in table _ m.members m.within) in
    let is : n ≡ Many (More a.first Nil) =
    m.is_many ∙ ap Many (a.split ∙ ap (More a.first) (none_left table a.others a.rest)) in
    subst (IsError 8) (sym is) a.is

abbrev error_codes : ℤ → Option named.Named
error_codes = layouts.named_by layouts.dap_errors

error_fits : (k : ℤ) (form : named.Named) (n : Node) → error_codes k ≡ Some form → Fits table (table form) n
    → IsCount (Number k) × IsError (number_or_zero k) n
error_fits (negsuc m) form n e f = absurd (cc e)
error_fits (pos zero) form n e f = absurd (cc e)
error_fits (pos (suc zero)) form n e f =
    let same : form ≡ named.AttributeError = cc in
    (small_count 1 (omega arith), attribute_error n (subst (λ (x : named.Named). Fits table (table x) n) same f))
error_fits (pos (suc (suc zero))) form n e f =
    let same : form ≡ named.NameError = cc in
    (small_count 2 (omega arith), name_error n (subst (λ (x : named.Named). Fits table (table x) n) same f))
error_fits (pos (suc (suc (suc zero)))) form n e f =
    let same : form ≡ named.ServiceError = cc in
    (small_count 3 (omega arith), service_error n (subst (λ (x : named.Named). Fits table (table x) n) same f))
error_fits (pos (suc (suc (suc (suc zero))))) form n e f =
    let same : form ≡ named.Reference = cc in
    let r = reference_fits n (subst (λ (x : named.Named). Fits table (table x) n) same f) in
    (small_count 4 (omega arith), referred 4 n r)
error_fits (pos (suc (suc (suc (suc (suc zero)))))) form n e f = absurd (cc e)
error_fits (pos (suc (suc (suc (suc (suc (suc zero))))))) form n e f = absurd (cc e)
error_fits (pos (suc (suc (suc (suc (suc (suc (suc zero)))))))) form n e f = absurd (cc e)
error_fits (pos (suc (suc (suc (suc (suc (suc (suc (suc zero))))))))) form n e f =
    let same : form ≡ named.UpdateError = cc in
    (small_count 8 (omega arith), update_error n (subst (λ (x : named.Named). Fits table (table x) n) same f))
error_fits (pos (suc (suc (suc (suc (suc (suc (suc (suc (suc m)))))))))) form n e f =
    absurd (omega (arith, code_below layouts.dap_errors (suc (suc (suc (suc (suc (suc (suc (suc (suc m))))))))) 9 form refl e))

-- ---- messages

-- a code, and what it names
pub record IsCoded (names : ℤ → Option named.Named) (ns : Nodes) : Type 0 where
  pub operation : ℤ
  pub said : Node
  pub split : ns ≡ More (Number operation) (More said Nil)
  pub form : named.Named
  pub names_it : names operation ≡ Some form
  pub fits_said : Fits table (table form) said

pub coded_in : (names : ℤ → Option named.Named) (ns : Nodes) → FitsSequence table (code named.AnyNumber names ∷ []) ns → IsCoded names ns
coded_in names _ (left_out d e f g) = absurd (cc e)
coded_in names _ (given nd f (named k form is names_it) (left_out d e g h)) = absurd (cc e)
coded_in names _ (given {n = c} nd f (named k form is names_it) (given {n = a} nd' f' required over)) = record {
  operation = k;
  said = a;
  split = ap (λ (x : Node). More x (More a Nil)) is;
  form = form;
  names_it = names_it;
  fits_said = f';
}

pub dap_result_fits : (n : Node) → Fits table (table named.DapResult) n → IsResult n
dap_result_fits n f =
    let m = only_made table _ n refl (λ x. refl) f in
    let c = coded_in result_codes m.members (sequence_in table _ m.members m.within) in
    let is : n ≡ Many (More (Number c.operation) (More c.said Nil)) = m.is_many ∙ ap Many c.split in
    subst IsResult (sym is) (result_fits c.operation c.form c.said c.names_it c.fits_said)

-- by the tag
made_reply : (tag : ℕ) (a : Alternative) (ns : Nodes) → find (is_marked tag) (table named.DapAnswer) ≡ Some a
    → FitsIn table a.content ns → IsReply (Chosen tag (Many ns))
made_reply zero a ns found inside = absurd (cc found)
made_reply (suc zero) a ns found inside = absurd (cc found)
made_reply (suc (suc zero)) a ns found inside =
    let result : Alternative = layouts.result named.DapResult in
    let same : a ≡ result = cc in
    let p = pair_in table (named.NumberBelow 0 4294967295) named.DapResult ns
    (sequence_in table _ ns (subst (λ (x : Alternative). FitsIn table x.content ns) same inside)) in
    subst (λ (x : Nodes). IsReply (Chosen 2 (Many x))) (sym p.split)
    (count_fits 4294967295 (omega arith) p.first p.fits_first, dap_result_fits p.second p.fits_second)
made_reply (suc (suc (suc zero))) a ns found inside =
    let error : Alternative = layouts.error layouts.dap_errors in
    let same : a ≡ error = cc in
    let i = first_in table (named.NumberBelow 0 4294967295) _ IsCount (count_fits 4294967295 (omega arith)) ns
    (sequence_in table _ ns (subst (λ (x : Alternative). FitsIn table x.content ns) same inside)) in
    let c = coded_in error_codes i.others i.rest in
    let both = error_fits c.operation c.form c.said c.names_it c.fits_said in
    subst (λ (x : Nodes). IsReply (Chosen 3 (Many x))) (sym (i.split ∙ ap (More i.first) c.split)) (i.is, both.0, both.1)
made_reply (suc (suc (suc (suc k)))) a ns found inside =
    absurd (omega (arith, tag_below (table named.DapAnswer) (suc (suc (suc (suc k)))) 4 a refl found))

pub reply_fits : (n : Node) → Fits table (table named.DapAnswer) n → IsReply n
reply_fits n (whole a octets free held unmarked writes settles) =
    let m : a.marked ≡ true = found_is (λ x. x.marked) (can_hold n) (table named.DapAnswer) a refl held in
    absurd (cc (unmarked, m))
reply_fits _ (made {ns} a held unmarked empty inside settles) =
    let m : a.marked ≡ true = found_is (λ x. x.marked) (can_hold (Many ns)) (table named.DapAnswer) a refl held in
    absurd (cc (unmarked, m))
reply_fits _ (chosen a tag form found c f settles) =
    absurd (sequence_explicit a.content form (found_is (λ x. is_sequence x.content) (is_marked tag) (table named.DapAnswer) a refl found) c)
reply_fits _ (chosen_made {ns} a tag found inside settles) = made_reply tag a ns found inside
