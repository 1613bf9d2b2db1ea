-- Of a list or search each agent's own part is an answer, whatever it holds: what the contexts of its walk have.
use Rattle.std.proofs.Common.{◌≡◌, true, false, [], refl}
use Rattle.std.specs.List.{flat_map}
use Rattle.x5_model.specs.Words.{sorted}
use Rattle.x5_model.specs.Requests.{Body, Read, Compare, ListBelow, Search, AddEntry, RemoveEntry, ModifyEntry, ModifyDn}
use Rattle.x5_model.specs.References.{Chained}
use Rattle.x5_model.specs.Answers.{Answer, Listed, Found, Answered}
use Rattle.x5_model_run.specs.Holdings.{Holdings}
use Rattle.x5_model_run.specs.Placed.{is_query_below}
use Rattle.x5_model_serve.specs.Walking.{entered}
use Rattle.x5_model_serve.specs.Answering.{reply_from, local_sources, subs_in, infos_in, first_each, before_sub, before_info, told_in, local_part}
use Rattle.x5_model_find.proofs.Needing.{false_true}

module _ (h : Holdings) (m : Chained) where
  told_answers : (b : Body) → is_query_below b ≡ true → (a : Answer)
      × (reply_from (local_sources h m) (told_in h m b) ≡ Answered a)
  told_answers (Read name selection) q = absurd (false_true q)
  told_answers (Compare name a) q = absurd (false_true q)
  told_answers (ListBelow name) q = (
    Listed (sorted before_sub (first_each before_sub (flat_map (subs_in h m) (entered h m)))) (local_sources h m)
        (record { limited = false; unexplored = [] }),
    refl,
  )
  told_answers (Search base subset f selection) q = (
    Found (sorted before_info (first_each before_info (flat_map (infos_in h m f selection) (entered h m))))
        (local_sources h m)
        (record { limited = false; unexplored = [] }),
    refl,
  )
  told_answers (AddEntry name attributes) q = absurd (false_true q)
  told_answers (RemoveEntry name) q = absurd (false_true q)
  told_answers (ModifyEntry name changes) q = absurd (false_true q)
  told_answers (ModifyDn name rdn drops) q = absurd (false_true q)

  pub local_answers : is_query_below m.request.body ≡ true → (a : Answer) × (local_part h m ≡ Answered a)
  local_answers query = told_answers m.request.body query
