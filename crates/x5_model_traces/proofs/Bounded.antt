-- The bounds of a request: by what stays of its messages, and by the cause of each line.
use Rattle.std.proofs.Common.{◌≡◌, ◌+◌, List, [], ◌∷◌, ◌++◌, length, ap, ◌∙◌, arith, length-append}
use Rattle.x5_model.specs.References.{Chained, TraceItem}
use Rattle.x5_model_run.specs.Journal.{Line, Journal, item_of}
use Rattle.x5_model_run.specs.Chain.{Scene}
use Rattle.x5_model_local.specs.Sending.{IsSentFor, begins, follows, IsCaused, AllCaused}
use Rattle.x5_model_local.proofs.Sent.{requests_are_caused}
use Rattle.x5_model_local.proofs.Within.{requests_are_within}
use Rattle.x5_model_traces.specs.Traces.{IsShort, HasOnce, IsBehind, AllBehind, RequestsAreBounded}
use Rattle.x5_model_traces.proofs.Passed.{request_passes, short_passes, once_passes}

one_longer : (xs : List TraceItem) (x : TraceItem) → length (xs ++ x ∷ []) ≡ length xs + 1
one_longer xs x = omega (arith, length-append xs (x ∷ []))

module _ (s : Scene) (j : Journal) where
  behind : (before : List Line) (l : Line) → IsSentFor s j before l → IsBehind before l
  behind before l f =
      let trace : l.message.trace ≡ f.opener.message.trace ++ item_of f.opener.receiver f.opener.message ∷ [] =
      ap (λ (m : Chained). m.trace) f.carries in
      record {
        opener = f.opener;
        stands = f.stands;
        arrived = f.arrived;
        trace_is = trace;
        deeper =
            ap (λ (xs : List TraceItem). length xs) trace
            ∙ one_longer f.opener.message.trace (item_of f.opener.receiver f.opener.message);
      }

  -- the first line carries what the user sent; before it stands none, for whose message it could be sent
  first_line : (l : Line) → IsCaused s j [] l → l.message ≡ s.message
  first_line l (begins f) = f.message_is
  first_line l (follows f) = (let i = f.stands in elim i [ ])

  later_line : (k : Line) (before : List Line) (l : Line) → IsCaused s j (k ∷ before) l → IsBehind (k ∷ before) l
  later_line k before l (follows f) = behind (k ∷ before) l f

  all_behind : (lines : List Line) → AllCaused s j lines → AllBehind s.message lines
  all_behind [] a = tt
  all_behind (l ∷ []) a = first_line l a.0.cause
  all_behind (l ∷ k ∷ before) a = (later_line k before l a.0.cause, all_behind (k ∷ before) a.1)

pub requests_are_bounded : RequestsAreBounded
requests_are_bounded s most j y is some = record {
  few = requests_are_within s most j y is some;
  short = request_passes IsShort short_passes s most j y is;
  once = request_passes HasOnce once_passes s most j y is;
  behind = all_behind s j j.lines (requests_are_caused s most j y is);
}
