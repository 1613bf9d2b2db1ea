-- How a run's end follows from the ends of its parts.
use Rattle.std.proofs.Common.{◌≡◌, ◌≤◌, ◌<◌, ◌+◌, ◌⊎◌, inl, inr, ℕ, List, ◌++◌, length, take, Option, sym, ap, ◌∙◌, arith, length-append}
use Rattle.std.proofs.Math.Seq.{take-append-add}
use Rattle.x5_port.specs.Outside.{Rose, with_octets, TookPrefix}
use Rattle.x5_port.proofs.Octets.{with_octets-with_octets}
use Rattle.xdir.specs.declared.top.Status.{Status}
use Rattle.xdir.specs.declared.top.Status.TheVariants.{Done, Refused, Usage, ReadFault, WriteFault, NoMemory, Inconsistent, TooLong}
use Rattle.xdir.specs.Outcomes.{Wrote, Broke, Ends}
use Rattle.xdir.specs.Steps.{WritesLine, WritesSuchLine, Prints}

-- a count that rose later
pub rose_later : (before mid after : ℕ) → before ≤ mid → Rose mid after → Rose before after
rose_later before mid after le rose = λ below. let now : mid < after = rose below in omega arith

-- a first part of a text after what was written
pub took_after : (before text : List ℕ) (old mid new : Option (List ℕ)) → mid ≡ with_octets before old → TookPrefix text mid new → TookPrefix (before ++ text) old new
took_after before text old mid new e (count, within, is) = (
  length before + count,
  (let whole : length (before ++ text) ≡ length before + length text = length-append before text in omega arith),
  is ∙ ap (λ (taken : Option (List ℕ)). with_octets (take count text) taken) e ∙ with_octets-with_octets before (take count text) old ∙ ap (λ (octets : List ℕ). with_octets octets old) (sym (take-append-add before text count)),
)

module _ {P Q : List ℕ → Type 0} (more : (text : List ℕ) → P text → Q text) (old new : Option (List ℕ)) where
  pub wrote_more : Wrote P old new → Wrote Q old new
  wrote_more w = record { text = w.text; is = more w.text w.is; whole = w.whole }

  pub broke_more : Broke P old new → Broke Q old new
  broke_more w = record { text = w.text; is = more w.text w.is; part = w.part }

-- what is said of the texts may say less
module _ {output first refusal output' first' refusal' : List ℕ → Type 0} (out : (text : List ℕ) → output text → output' text) (part : (text : List ℕ) → first text → first' text) (refuse : (text : List ℕ) → refusal text → refusal' text) where
  either : (text : List ℕ) → (output text ⊎ first text) ⊎ refusal text → (output' text ⊎ first' text) ⊎ refusal' text
  either text (inl (inl o)) = inl (inl (out text o))
  either text (inl (inr f)) = inl (inr (part text f))
  either text (inr r) = inr (refuse text r)

  pub ends_more : (status : Status) (old new : Option (List ℕ)) (before after : ℕ) → Ends output first refusal status old new before after → Ends output' first' refusal' status old new before after
  ends_more Done old new before after w = wrote_more out old new w
  ends_more Refused old new before after w = wrote_more refuse old new w
  ends_more WriteFault old new before after w = (w.0, broke_more either old new w.1)
  ends_more NoMemory old new before after (inl e) = inl e
  ends_more NoMemory old new before after (inr w) = inr (wrote_more part old new w)
  ends_more ReadFault old new before after w = w
  ends_more TooLong old new before after w = w
  ends_more Usage old new before after w = absurd w
  ends_more Inconsistent old new before after w = absurd w

-- ---- a line that is written alone

pub such_line : (P : List ℕ → Type 0) (line : List ℕ) → P line → (status : Status) (old new : Option (List ℕ)) (before after : ℕ)
    → WritesLine status line old new before after → WritesSuchLine status P old new before after
such_line P line is Refused old new before after w = record { text = line; is = is; whole = w }
such_line P line is WriteFault old new before after w = (w.0, record { text = line; is = is; part = w.1 })
such_line P line is Done old new before after w = absurd w
such_line P line is NoMemory old new before after w = absurd w
such_line P line is ReadFault old new before after w = absurd w
such_line P line is TooLong old new before after w = absurd w
such_line P line is Usage old new before after w = w
such_line P line is Inconsistent old new before after w = w

module _ {P Q : List ℕ → Type 0} (more : (text : List ℕ) → P text → Q text) where
  pub such_more : (status : Status) (old new : Option (List ℕ)) (before after : ℕ)
      → WritesSuchLine status P old new before after → WritesSuchLine status Q old new before after
  such_more Refused old new before after w = wrote_more more old new w
  such_more WriteFault old new before after w = (w.0, broke_more more old new w.1)
  such_more NoMemory old new before after w = w
  such_more Done old new before after w = absurd w
  such_more ReadFault old new before after w = absurd w
  such_more TooLong old new before after w = absurd w
  such_more Usage old new before after w = w
  such_more Inconsistent old new before after w = w

  -- where it is a refusal, it ends a run
  pub such_ends : (output first : List ℕ → Type 0) (status : Status) (old new : Option (List ℕ)) (before after : ℕ)
      → WritesSuchLine status P old new before after → Ends output first Q status old new before after
  such_ends output first Refused old new before after w = wrote_more more old new w
  such_ends output first WriteFault old new before after w = (w.0, broke_more (λ text p. inr (more text p)) old new w.1)
  such_ends output first NoMemory old new before after w = inl w
  such_ends output first Done old new before after w = absurd w
  such_ends output first ReadFault old new before after w = absurd w
  such_ends output first TooLong old new before after w = absurd w
  such_ends output first Usage old new before after w = w
  such_ends output first Inconsistent old new before after w = w

pub such_prints : (status : Status) (P : List ℕ → Type 0) (old new : Option (List ℕ)) (before after : ℕ)
    → WritesSuchLine status P old new before after → Prints status
such_prints Refused P old new before after w = tt
such_prints WriteFault P old new before after w = tt
such_prints NoMemory P old new before after w = tt
such_prints Done P old new before after w = absurd w
such_prints ReadFault P old new before after w = w
such_prints TooLong P old new before after w = w
such_prints Usage P old new before after w = w
such_prints Inconsistent P old new before after w = w
