-- What fits the type of an answer to an agent is a value for whose parts the code has types.
use Rattle.std.proofs.Common.{◌≡◌, ℕ, zero, suc, ◌<◌, true, ℤ, pos, negsuc, List, [], ◌∷◌, refl, sym, ap, subst, ◌∙◌, arith}
use Rattle.std.specs.List.{find}
use Rattle.std.specs.declared.option.Option.{Option}
use Rattle.std.specs.declared.option.Option.TheVariants.{None, Some}
use Rattle.x5_model_typed.specs.Nodes.{Node, Nodes, Number, Chosen, Many, More}
use Rattle.x5_model_typed.specs.Named as named
use Rattle.x5_model_typed.specs.Forms.{Alternative}
use Rattle.x5_model_typed.specs.Layouts as layouts
use Rattle.x5_model_typed.specs.Written.{can_hold, is_marked}
use Rattle.x5_model_typed_laws.specs.Fits.{Fits, FitsIn, whole, made, chosen, chosen_made}
use Rattle.x5_types.specs.FormView.{table}
use Rattle.x5_dapber.specs.Sayable.{IsCount}
use Rattle.x5_dapber.proofs.Fitting.{pair_in, sequence_in, found_is, tag_below}
use Rattle.x5_dapber.proofs.ReadIsSayable.{count_fits, small_count, code_below, number_or_zero, is_sequence, sequence_explicit}
use Rattle.x5_dapreply.specs.Sayable.{IsError, IsReply}
use Rattle.x5_dapreply.proofs.ReplyIsSayable.{reference_fits, attribute_error, name_error, service_error, referred, update_error, coded_in, dap_result_fits}
use Rattle.x5_dapreply.proofs.Sequences.{first_in}

abbrev error_codes : ℤ → Option named.Named
error_codes = layouts.named_by layouts.dsp_errors

error_fits : (k : ℤ) (form : named.Named) (n : Node) → error_codes k ≡ Some form → Fits table (table form) n
    → IsCount (Number k) × IsError (number_or_zero k) n
error_fits (negsuc m) form n e f = absurd (cc e)
error_fits (pos zero) form n e f = absurd (cc e)
error_fits (pos (suc zero)) form n e f =
    let same : form ≡ named.AttributeError = cc in
    (small_count 1 (omega arith), attribute_error n (subst (λ (x : named.Named). Fits table (table x) n) same f))
error_fits (pos (suc (suc zero))) form n e f =
    let same : form ≡ named.NameError = cc in
    (small_count 2 (omega arith), name_error n (subst (λ (x : named.Named). Fits table (table x) n) same f))
error_fits (pos (suc (suc (suc zero)))) form n e f =
    let same : form ≡ named.ServiceError = cc in
    (small_count 3 (omega arith), service_error n (subst (λ (x : named.Named). Fits table (table x) n) same f))
error_fits (pos (suc (suc (suc (suc zero))))) form n e f = absurd (cc e)
error_fits (pos (suc (suc (suc (suc (suc zero)))))) form n e f = absurd (cc e)
error_fits (pos (suc (suc (suc (suc (suc (suc zero))))))) form n e f = absurd (cc e)
error_fits (pos (suc (suc (suc (suc (suc (suc (suc zero)))))))) form n e f = absurd (cc e)
error_fits (pos (suc (suc (suc (suc (suc (suc (suc (suc zero))))))))) form n e f =
    let same : form ≡ named.UpdateError = cc in
    (small_count 8 (omega arith), update_error n (subst (λ (x : named.Named). Fits table (table x) n) same f))
error_fits (pos (suc (suc (suc (suc (suc (suc (suc (suc (suc zero)))))))))) form n e f =
    let same : form ≡ named.Reference = cc in
    let r = reference_fits n (subst (λ (x : named.Named). Fits table (table x) n) same f) in
    (small_count 9 (omega arith), referred 9 n r)
error_fits (pos (suc (suc (suc (suc (suc (suc (suc (suc (suc (suc m))))))))))) form n e f =
    absurd (omega (arith, code_below layouts.dsp_errors (suc (suc (suc (suc (suc (suc (suc (suc (suc (suc m)))))))))) 10 form refl e))

-- by the tag
made_reply : (tag : ℕ) (a : Alternative) (ns : Nodes) → find (is_marked tag) (table named.DspAnswer) ≡ Some a
    → FitsIn table a.content ns → IsReply (Chosen tag (Many ns))
made_reply zero a ns found inside = absurd (cc found)
made_reply (suc zero) a ns found inside = absurd (cc found)
made_reply (suc (suc zero)) a ns found inside =
    let result : Alternative = layouts.result named.DspResult in
    let same : a ≡ result = cc in
    let p = pair_in table (named.NumberBelow 0 4294967295) named.DspResult ns
    (sequence_in table _ ns (subst (λ (x : Alternative). FitsIn table x.content ns) same inside)) in
    subst (λ (x : Nodes). IsReply (Chosen 2 (Many x))) (sym p.split)
    (count_fits 4294967295 (omega arith) p.first p.fits_first, dap_result_fits p.second p.fits_second)
made_reply (suc (suc (suc zero))) a ns found inside =
    let error : Alternative = layouts.error layouts.dsp_errors in
    let same : a ≡ error = cc in
    let i = first_in table (named.NumberBelow 0 4294967295) _ IsCount (count_fits 4294967295 (omega arith)) ns
    (sequence_in table _ ns (subst (λ (x : Alternative). FitsIn table x.content ns) same inside)) in
    let c = coded_in error_codes i.others i.rest in
    let both = error_fits c.operation c.form c.said c.names_it c.fits_said in
    subst (λ (x : Nodes). IsReply (Chosen 3 (Many x))) (sym (i.split ∙ ap (More i.first) c.split)) (i.is, both.0, both.1)
made_reply (suc (suc (suc (suc k)))) a ns found inside =
    absurd (omega (arith, tag_below (table named.DspAnswer) (suc (suc (suc (suc k)))) 4 a refl found))

pub result_fits : (n : Node) → Fits table (table named.DspAnswer) n → IsReply n
result_fits n (whole a octets free held unmarked writes settles) =
    let m : a.marked ≡ true = found_is (λ x. x.marked) (can_hold n) (table named.DspAnswer) a refl held in
    absurd (cc (unmarked, m))
result_fits _ (made {ns} a held unmarked empty inside settles) =
    let m : a.marked ≡ true = found_is (λ x. x.marked) (can_hold (Many ns)) (table named.DspAnswer) a refl held in
    absurd (cc (unmarked, m))
result_fits _ (chosen a tag form found c f settles) =
    absurd (sequence_explicit a.content form (found_is (λ x. is_sequence x.content) (is_marked tag) (table named.DspAnswer) a refl found) c)
result_fits _ (chosen_made {ns} a tag found inside settles) = made_reply tag a ns found inside
