-- Octets in pieces: what the feeder keeps over a piece.
use Rattle.std.proofs.Common.{◌≡◌, ℕ, ◌+◌, ◌-◌, ◌≤◌, min, Bool, true, false, List, [], ◌++◌, length, take, drop, refl, ap, sym, subst, ◌∙◌, inl, inr, arith, append-nil, length-append, length-take}
use Rattle.std.specs.Prelude.{nat_lt}
use Rattle.std.specs.declared.option.Option.{Option}
use Rattle.std.specs.declared.option.Option.TheVariants.{None, Some}
use Rattle.std.specs.declared.result.Result.{Result}
use Rattle.std.specs.declared.result.Result.TheVariants.{Ok, Err}
use Rattle.std.proofs.lemmas.List.{drop_all, take-append-drop, take-append-le, take_all, take-take}
use Rattle.std.proofs.lemmas.Bool.{ltb-true, ltb-false}
use Rattle.std.proofs.Math.Seq.{take-append_seam, take-append-add}
use Rattle.x5_model_octets.specs.Headers.{Identifier, identifier_at, length_at, Stop, Short, Malformed}
use Rattle.x5_model_octets.specs.Elements.{Spells, deepest}
use Rattle.x5_model_octets.specs.Faults.{Fault, Truncated, Around, FirstFault, in_header, in_octets, in_member, outermost, head_at, seen, end_fault, runs_out, begins_with_end, may_extend, after_identifier, after_length}
use Rattle.x5_model_octets.proofs.HeaderLaws.{chosen}
use Rattle.x5_model_octets.proofs.FaultLaws.{spelled_no_fault}
use Rattle.x5_ber.specs.declared.element.BerFault.{BerFault}
use Rattle.x5_ber.specs.declared.element.BerFault.TheVariants as code
use Rattle.x5_ber.specs.declared.feeder.Sight.{Sight}
use Rattle.x5_ber.specs.declared.feeder.Sight.TheVariants.{Whole, Beginning, Breach}
use Rattle.x5_ber.specs.declared.reader.Reader.{Reader}
use Rattle.x5_ber.specs.Views.{fault_view}
use Rattle.x5_ber.specs.Reading.{ValueAt, AreOpen}
use Rattle.x5_ber.specs.declared.feeder.Progress.{Progress}
use Rattle.x5_ber.specs.declared.feeder.Progress.TheVariants as code_progress
use Rattle.x5_ber.specs.States.{State, reading, whole, wants_more}
use Rattle.x5_ber.specs.Feeding.{IsBeginning, IsBreach, IsReading, IsWhole, IsValue, Keeps, Takes, to_end, longest, state_at}
use Rattle.x5_ber.specs.Sights.{Sees, Shows}

-- The place of Truncated is the input's length.
end_truncated : (limit : Option ℕ) (input : List ℕ) (n : ℕ) → end_fault limit input ≡ Truncated n → n ≡ length input
end_truncated None input n e = cc
end_truncated (Some end) input n e =
    elim (chosen (nat_lt (length input) end) _ _ _ e) [ inl (short, is) ↦ cc | inr (there, is) ↦ cc ]

length_truncated : (limit : Option ℕ) (input : List ℕ) (i : Identifier) (place n : ℕ) (r : Result (Option ℕ × List ℕ) Stop) → after_length limit input i place r ≡ Err (Truncated n) → n ≡ length input
length_truncated limit input i place n (Err Short) e = end_truncated limit input n (let same : end_fault limit input ≡ Truncated n = cc in same)
length_truncated limit input i place n (Err Malformed) e = cc
length_truncated limit input i place n (Ok (extent, rest)) e =
    elim (chosen (may_extend limit (record { identifier = i; extent = extent; content = length (seen limit input) - length rest })) _ _ _ e) [ inl (may, is) ↦ cc | inr (may, is) ↦ cc ]

identifier_truncated : (limit : Option ℕ) (input : List ℕ) (at n : ℕ) (r : Result (Identifier × List ℕ) Stop) → after_identifier limit input at r ≡ Err (Truncated n) → n ≡ length input
identifier_truncated limit input at n (Err Short) e = end_truncated limit input n (let same : end_fault limit input ≡ Truncated n = cc in same)
identifier_truncated limit input at n (Err Malformed) e = cc
identifier_truncated limit input at n (Ok (i, rest)) e = length_truncated limit input i _ n (length_at rest) e

head_truncated : (a : Around) (input : List ℕ) (at n : ℕ) → head_at a input at ≡ Err (Truncated n) → n ≡ length input
head_truncated a input at n e =
    elim (chosen (runs_out a.closes (drop at (seen a.limit input))) _ _ _ e) [
      | inl (out, is) ↦ end_truncated a.limit input n (let same : end_fault a.limit input ≡ Truncated n = cc in same)
      | inr (left, e1) ↦ elim (chosen (nat_lt deepest a.depth) _ _ _ e1) [
        | inl (deep, is) ↦ cc
        | inr (shallow, e2) ↦ elim (chosen (begins_with_end (drop at (seen a.limit input))) _ _ _ e2) [
          | inl (ended, is) ↦ cc
          | inr (on, e3) ↦ identifier_truncated a.limit input at n (identifier_at (drop at (seen a.limit input))) e3
        ]
      ]
    ]

pub truncated_at_end : (input : List ℕ) (a : Around) (at n : ℕ) (f : Fault) → FirstFault input a at f → f ≡ Truncated n → n ≡ length input
truncated_at_end input a at n f (in_header is) e = head_truncated a input at n (is ∙ ap (λ (g : Fault). Err g) e)
truncated_at_end input a at n f (in_octets is form cut) e = cc
truncated_at_end input a at n f (in_member {head = head} members octets is form spelled stand unfinished inner) e = truncated_at_end input _ _ n f inner e

-- What the fault of a reader shows.
pub sees_fault : (input : List ℕ) (fault : BerFault) (s : Sight) (reader : Reader) → Shows fault s → FirstFault input outermost 0 (fault_view fault) → AreOpen input reader.enclosing 0 reader.depth reader.at → Sees input s reader
sees_fault input fault Whole reader shows first open_at = absurd shows
sees_fault input (code.Truncated n) Beginning reader shows first open_at =
    (subst (λ (m : ℕ). FirstFault input outermost 0 (Truncated m)) (truncated_at_end input outermost 0 n (Truncated n) first refl) first, open_at)
sees_fault input (code.BadLength n) Beginning reader shows first open_at = absurd shows
sees_fault input (code.BadTag n) Beginning reader shows first open_at = absurd shows
sees_fault input (code.BadContent n) Beginning reader shows first open_at = absurd shows
sees_fault input (code.TooDeep n) Beginning reader shows first open_at = absurd shows
sees_fault input fault (Breach shown) reader shows first open_at =
    subst (λ (g : BerFault). IsBreach input g) (sym shows.0) (first, shows.1)

pub fresh_reading : (octets : List ℕ) (reader : Reader) → octets ≡ [] → reader.depth ≡ 0 → ((input : List ℕ) → 0 ≤ length input → AreOpen input reader.enclosing 0 reader.depth reader.at) → IsReading octets reader
fresh_reading octets reader nothing none begins = record {
  open_at = begins octets (omega arith);
  shallow = omega (arith, none);
  beginning = subst (λ (xs : List ℕ). IsBeginning xs) (sym nothing) (in_header refl);
  short = omega (arith, ap length nothing);
}

-- A feeder that wants more octets.
pub wanting : (octets : List ℕ) (reader : Reader) (p : Progress) (s : State) → state_at octets p ≡ s → wants_more s ≡ true → Keeps octets reader p → (s ≡ reading octets) × IsReading octets reader
wanting octets reader code_progress.Reading s is wants kept = (sym is, kept)
wanting octets reader code_progress.Whole s is wants kept = cc
wanting octets reader (code_progress.Failed fault) s is wants kept = cc

-- A value that is whole now ends behind the octets that were only its beginning.
pub value_beyond : (octets part : List ℕ) (at : ℕ) → IsBeginning octets → ValueAt (octets ++ part) 0 at → length octets ≤ at
value_beyond octets part at beginning v = by_order (nat_lt at (length octets)) refl
  where
    by_order : (b : Bool) → nat_lt at (length octets) ≡ b → length octets ≤ at
    by_order false e = ltb-false _ _ e
    by_order true e =
        let inside : length v.octets ≤ length octets = omega (arith, v.ends, ltb-true _ _ e) in
        let front : take (length v.octets) octets ≡ v.octets = sym (take-append-le (length v.octets) octets part inside) ∙ ap (λ (l : List ℕ). take (length v.octets) l) v.stands.split ∙ take-append_seam v.octets _ in
        let whole : octets ≡ v.octets ++ drop (length v.octets) octets = sym (take-append-drop (length v.octets) octets) ∙ ap (λ (l : List ℕ). l ++ drop (length v.octets) octets) front in
        absurd (spelled_no_fault octets outermost 0 (Truncated (length octets)) beginning
        (record { member = v.element; spelling = v.octets; rest = drop (length v.octets) octets; spells = v.spells; whole = whole }))

-- The octets up to a value's end are the value.
pub value_taken : (octets part : List ℕ) (at n : ℕ) → ValueAt (octets ++ part) 0 at → at ≡ length octets + n → (taken_now : List ℕ) → taken_now ≡ octets ++ take n part → IsValue taken_now
value_taken octets part at n v ends taken_now is =
    let cut : take (length octets + n) (octets ++ part) ≡ octets ++ take n part = take-append-add octets part n in
    let count : length v.octets ≡ length octets + n = omega (arith, v.ends, ends) in
    let same : v.octets ≡ taken_now = sym (take-append_seam v.octets (drop (0 + length v.octets) (octets ++ part))) ∙ ap (λ (l : List ℕ). take (length v.octets) l) (sym v.stands.split) ∙ ap (λ (k : ℕ). take k (octets ++ part)) count ∙ cut ∙ sym is in
    let spelled : Spells 1 v.element taken_now = subst (λ (l : List ℕ). Spells 1 v.element l) same v.spells in
    record {
      element = v.element;
      octets = taken_now;
      spells = spelled;
      stands = record { split = sym (append-nil taken_now) ∙ ap (λ (l : List ℕ). taken_now ++ l) (sym (drop_all (0 + length taken_now) taken_now (omega arith))); there = omega arith };
      ends = omega arith;
    }

-- A value lies within the octets that it was read from.
pub value_within : (input : List ℕ) (at : ℕ) → ValueAt input 0 at → at ≤ length input
value_within input at v = omega (arith, v.ends, v.stands.there)

-- The piece up to the longest value.
pub cut_piece : (octets piece : List ℕ) (n : ℕ) → length octets ≤ longest → n ≡ min (length piece) (longest - length octets) → take longest (octets ++ piece) ≡ octets ++ take n piece
cut_piece octets piece n short is =
    let sum : longest ≡ length octets + (longest - length octets) = omega (arith, short) in
    ap (λ (k : ℕ). take k (octets ++ piece)) sum ∙ take-append-add octets piece (longest - length octets)
    ∙ ap (λ (l : List ℕ). octets ++ l) (by_order (nat_lt (longest - length octets) (length piece)) refl)
  where
    by_order : (b : Bool) → nat_lt (longest - length octets) (length piece) ≡ b → take (longest - length octets) piece ≡ take n piece
    by_order true e = ap (λ (k : ℕ). take k piece) (omega (arith, is, ltb-true _ _ e))
    by_order false e = take_all (longest - length octets) piece (ltb-false _ _ e) ∙ sym (take_all n piece (omega (arith, is, ltb-false _ _ e)))

-- The feeder takes the value's octets and no more, and they aren't too many.
module _ (old piece : List ℕ) (at before n : ℕ) (size : length old ≡ before) (short : length old ≤ longest) (is : n ≡ min (length piece) (longest - before)) (beginning : IsBeginning old) (v : ValueAt (old ++ take n piece) 0 at) where
  counted : at - before ≤ n
  counted =
      let within : at ≤ length (old ++ take n piece) = value_within (old ++ take n piece) at v in
      omega (arith, value_beyond old (take n piece) at beginning v, within, length-append old (take n piece), length-take n piece, size)

  pub whole_kept : (now : List ℕ) → now ≡ old ++ take (at - before) (take n piece) → IsWhole now
  whole_kept now same = record {
    value = value_taken old (take n piece) at (at - before) v (omega (arith, value_beyond old (take n piece) at beginning v, size)) now same;
    short = omega (arith, ap length same, length-append old (take (at - before) (take n piece)), length-take (at - before) (take n piece), counted, is, size, short);
  }

  pub whole_reads : (now : List ℕ) → now ≡ old ++ take (at - before) (take n piece) → Takes old piece (whole now) (at - before)
  whole_reads now same =
      let taken : now ≡ old ++ take (at - before) piece = same ∙ ap (λ (l : List ℕ). old ++ l) (take-take (at - before) n piece counted) in
      to_end (ap (λ (l : List ℕ). whole l) taken) (omega (arith, counted, is)) (subst (λ (l : List ℕ). IsWhole l) taken (whole_kept now same))

pub beginning_cut : (old piece : List ℕ) (n : ℕ) → length old ≤ longest → n ≡ min (length piece) (longest - length old) → IsBeginning (old ++ take n piece) → IsBeginning (take longest (old ++ piece))
beginning_cut old piece n short is b = subst (λ (l : List ℕ). IsBeginning l) (sym (cut_piece old piece n short is)) b
