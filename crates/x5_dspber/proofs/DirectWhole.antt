-- Messages between agents, each from what is found of its parts.
use Rattle.std.proofs.Common.{◌≡◌, ℕ, ◌≤◌, ◌<◌, true, List, [], ◌∷◌, length, map}
use Rattle.std.proofs.Common.{refl, ap, sym, ◌∙◌, subst, arith, lit<, lit≤}
use Rattle.x5_model.specs.References.{Progress, RefType}
use Rattle.x5_model.specs.Requests.{Request}
use Rattle.x5_model.specs.Values.{Name, Rdn}
use Rattle.x5_model.specs.Words.{distinct}
use Rattle.x5_model_fitting.specs.Chained.{same_item}
use Rattle.x5_model_messages.specs.Chained as chains
use Rattle.x5_model_messages.specs.Chained.{chaining_in, carried_in, chained_in}
use Rattle.x5_model_messages.specs.Replies.{TraceItem, item_in, progress_in, kind_in}
use Rattle.x5_model_messages.specs.Requests.{argument_in}
use Rattle.x5_model_messages.specs.Terms.{name_of}
use Rattle.x5_model_typed.specs.Named as named
use Rattle.x5_model_typed.specs.Nodes.{Node, Many, Nil, Chosen, row, list, parts, whole}
use Rattle.x5_model_typed.specs.Forms.{plain, ruled}
use Rattle.x5_model_typed.specs.Layouts.{sequence, sequence_of, set}
use Rattle.x5_model_typed.specs.Rules.{trace_rule}
use Rattle.x5_model_typed.specs.Typed.{Spells}
use Rattle.x5_model_typed.proofs.Laws.{list_row}
use Rattle.x5_types.specs.FormView.{table}
use Rattle.x5_dspber.specs.Direct.{AreFour, ReadLast, ReadsChaining, chaining_parts, items_of, last_part}
use Rattle.x5_dapreply.specs.Said.{rdns_in}
use Rattle.x5_direct.specs.Spelled.{Opens, Reads, ReadEach}
use Rattle.x5_dapber.specs.Direct.{Invokes, SpelledInSet}
use Rattle.x5_dapber.proofs.Coming.{whole_spelled}
use Rattle.x5_dapber.proofs.Invoking.{invoke_spelled}
use Rattle.x5_dapber.proofs.Sets.{tagged, set_given, set_missing, set_over, set_in}
use Rattle.x5_dspber.proofs.DirectTrace.{so_ruled}
use Rattle.x5_direct.proofs.Spelling.{branch_spelled, each_in, order_in, order_next, order_over}
use Rattle.x5_direct.proofs.Spelling.{spelled_higher}

-- ---- a trace

listed : {X : Type 0} (says : Node → X) (ns : List Node) → map says ns ≡ map says (list (row ns))
listed says ns = ap (λ (l : List Node). map says l) (sym (list_row ns))

same_length : {X : Type 0} (f : Node → X) (ns : List Node) → length (map f ns) ≡ length ns
same_length f [] = refl
same_length f (n ∷ ns) = let more = same_length f ns in omega (arith, more)

pub trace_read : (items : List TraceItem) (content octets rest : List ℕ) → Opens 48 content octets rest
    → ReadEach 4 named.TraceItem item_in items content → length items ≤ 128 → distinct same_item items ≡ true
    → Reads 5 named.Trace items_of items octets rest
trace_read items content octets rest o each few once =
    let ns = each.0 in
    let n : Node = Many (row ns) in
    let size : length ns ≤ 128 = omega (arith, few, ap length each.2, same_length item_in ns) in
    let apart : distinct same_item (map item_in ns) ≡ true =
    subst (λ (l : List TraceItem). distinct same_item l ≡ true) each.2 once in (
      n,
      branch_spelled 4 named.Trace 48 0 16 (ruled trace_rule (sequence_of named.TraceItem)) n n content octets rest o
          refl (λ w. refl) (each_in 4 named.TraceItem ns content each.1) (so_ruled ns size apart),
      each.2 ∙ listed item_in ns,
    )

-- ---- chaining arguments

pub none_left_out : (octets : List ℕ) → octets ≡ [] → ReadLast [] octets
none_left_out octets is = record {
  node = Many Nil;
  spelled = subst (λ (l : List ℕ). SpelledInSet 6 4 last_part (Many Nil ∷ []) l) (sym is)
      (set_missing 6 4 5 named.Rdns (Many Nil) [] [] [] (lit< tt) (set_over 6 5));
  says = refl;
}

pub some_left_out : (rdns : List Rdn) (content octets : List ℕ) → Opens 164 content octets []
    → Reads 3 named.Rdns rdns_in rdns content [] → ReadLast rdns octets
some_left_out rdns content octets o r = record {
  node = r.0;
  spelled = set_given 6 4 5 named.Rdns _ [] r.0 [] octets [] (lit< tt) refl
      (tagged 5 4 named.Rdns 164 r.0 content octets [] o refl refl
      (spelled_higher 3 5 named.Rdns r.0 content [] (lit≤ tt) r.1)) (set_over 6 5);
  says = r.2;
}

said_of : (target : Name) (progress : Progress) (kind : RefType) (exclusions : List Rdn) (trace : List TraceItem)
    (r : Request) (a b c d e : Node) → target ≡ name_of a → progress ≡ progress_in b → trace ≡ items_of c
    → kind ≡ kind_in d → exclusions ≡ rdns_in e
    → record { target = target; progress = progress; kind = kind; exclusions = exclusions; trace = trace; request = r }
    ≡ chaining_in r (Many (row (a ∷ b ∷ c ∷ d ∷ e ∷ [])))
said_of target progress kind exclusions trace r a b c d e f g h i j = cc (f, g, h, i, j)

pub chaining_read : (target : Name) (progress : Progress) (kind : RefType) (exclusions : List Rdn)
    (trace : List TraceItem) (targets progresses traces kinds octets rest : List ℕ)
    → AreFour targets progresses traces kinds octets rest
    → Reads 3 named.Name name_of target targets []
    → Reads 1 named.Progress progress_in progress progresses []
    → Reads 5 named.Trace items_of trace traces []
    → Reads 0 named.RefType kind_in kind kinds [] → ReadLast exclusions rest
    → ReadsChaining target progress kind exclusions trace octets
chaining_read target progress kind exclusions trace targets progresses traces kinds octets rest f a b c d e =
    let ns : List Node = a.0 ∷ b.0 ∷ c.0 ∷ d.0 ∷ e.node ∷ [] in (
      Many (row ns),
      set_in 6 0 chaining_parts ns octets
          (set_given 6 0 1 named.Name _ _ a.0 (b.0 ∷ c.0 ∷ d.0 ∷ e.node ∷ []) octets f.first (lit< tt) refl
          (tagged 5 0 named.Name 160 a.0 targets octets f.first f.opens_target refl refl
          (spelled_higher 3 5 named.Name a.0 targets [] (lit≤ tt) a.1))
          (set_given 6 1 2 named.Progress _ _ b.0 (c.0 ∷ d.0 ∷ e.node ∷ []) f.first f.second (lit< tt) refl
          (tagged 5 1 named.Progress 161 b.0 progresses f.first f.second f.opens_progress refl refl
          (spelled_higher 1 5 named.Progress b.0 progresses [] (lit≤ tt) b.1))
          (set_given 6 2 3 named.Trace _ _ c.0 (d.0 ∷ e.node ∷ []) f.second f.third (lit< tt) refl
          (tagged 5 2 named.Trace 162 c.0 traces f.second f.third f.opens_trace refl refl c.1)
          (set_given 6 3 4 named.RefType _ _ d.0 (e.node ∷ []) f.third rest (lit< tt) refl
          (tagged 5 3 named.RefType 163 d.0 kinds f.third rest f.opens_kind refl refl
          (spelled_higher 0 5 named.RefType d.0 kinds [] (lit≤ tt) d.1)) e.spelled)))),
      λ r. said_of target progress kind exclusions trace r a.0 b.0 c.0 d.0 e.node a.2 b.2 c.2 d.2 e.says,
    )

-- ---- with the argument of the operation

pub carried_read : (o : named.Operation) (k : ℕ) (m : chains.Chained) (r : Request)
    (chaining behind content octets rest : List ℕ) → Opens 48 content octets rest → Opens 49 chaining content behind
    → ReadsChaining m.target m.progress m.kind m.exclusions m.trace chaining → m.request ≡ r
    → Reads 50 (named.Argument o) (argument_in k) r behind []
    → Reads 51 (named.Chained o) (carried_in k) m octets rest
carried_read o k m r chaining behind content octets rest outer inner c is a =
    let ns : List Node = c.0 ∷ a.0 ∷ [] in
    let n : Node = Many (row ns) in
    let same : m.request ≡ argument_in k a.0 = is ∙ a.2 in (
      n,
      branch_spelled 50 (named.Chained o) 48 0 16 (sequence (plain named.Chaining ∷ plain (named.Argument o) ∷ [])) n n
          content octets rest outer refl (λ w. refl)
          (order_in 50 (plain named.Chaining ∷ plain (named.Argument o) ∷ []) ns content
          (order_next 50 named.Chaining (plain (named.Argument o) ∷ []) c.0 (a.0 ∷ []) content behind
          (spelled_higher 7 50 named.Chaining c.0 content behind (lit≤ tt)
          (branch_spelled 6 named.Chaining 49 0 17 (set chaining_parts) c.0 c.0 chaining content behind inner refl
          (λ w. refl) c.1 refl))
          (order_next 50 (named.Argument o) [] a.0 [] behind [] a.1 (order_over 50))))
          refl,
      c.2 m.request ∙ ap (λ (q : Request). chaining_in q c.0) same,
    )

-- ---- messages

abbrev pair : ℕ → chains.Chained → ℕ × chains.Chained
pair i m = (i, m)

pub message_read : (o : named.Operation) (i k : ℕ) (m : chains.Chained) (octets behind : List ℕ)
    → Invokes i k o octets behind → Reads 51 (named.Chained o) (carried_in k) m behind []
    → (n : Node) × Spells table named.DspRequest octets n × (pair i m ≡ chained_in n)
message_read o i k m octets behind v c = (
  Chosen 1 (Many (row (whole i ∷ whole k ∷ c.0 ∷ []))),
  whole_spelled 52 named.DspRequest _ octets (omega arith)
      (invoke_spelled 51 named.DspRequest named.Chained o i k c.0 octets behind (λ w. refl) v c.1),
  ap (pair i) c.2,
)
