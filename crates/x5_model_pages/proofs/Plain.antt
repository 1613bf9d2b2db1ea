-- Lines that don't speak of pages are a run's.
use Rattle.std.proofs.Common.{◌≡◌, ℕ, ◌+◌, List, [], ◌∷◌, ◌++◌, map, refl, sym, ap, ◌∙◌, subst}
use Rattle.x5_model.specs.Values.{Text}
use Rattle.x5_model_tree.specs.World.{World}
use Rattle.x5_model_tree.specs.Consistent.{first_breach}
use Rattle.x5_model_run.specs.Run.{Command, Block, Judge, IsRun}
use Rattle.x5_model_output.specs.Output.{Names, names_of, knowledge_line, block_text, blocks_text, PrintsRun}
use Rattle.x5_model_pages.specs.Lines.{Plain, commands_of, lines_text, PrintsPaged}
use Rattle.x5_model_pages.specs.Laws.{PlainIsRun}

commands_stay : (cs : List Command) (bs : List Block) → commands_of [] (map Plain cs) bs ≡ cs
commands_stay [] bs = refl
commands_stay (c ∷ cs) [] = ap (λ (ds : List Command). c ∷ ds) (commands_stay cs [])
commands_stay (c ∷ cs) (b ∷ bs) = ap (λ (ds : List Command). c ∷ ds) (commands_stay cs bs)

texts_stay : (names : Names) (n : ℕ) (cs : List Command) (bs : List Block)
    → lines_text names n [] (map Plain cs) bs ≡ blocks_text names n cs bs
texts_stay names n [] bs = refl
texts_stay names n (c ∷ cs) [] = refl
texts_stay names n (c ∷ cs) (b ∷ bs) = ap (λ (t : Text). block_text names n c b ++ t) (texts_stay names (n + 1) cs bs)

module _ (judge : Judge) (w : World) (moment : ℕ → Text) (commands : List Command) (octets : Text) where
  abbrev at_first : Text → Text
  at_first t = knowledge_line (names_of w moment) (first_breach w) ++ t

  pub as_run : PrintsPaged judge w moment (map Plain commands) octets → PrintsRun judge w moment commands octets
  as_run p = record {
    blocks = p.blocks;
    past = p.past;
    runs = subst (λ (cs : List Command). IsRun judge w cs p.blocks p.past) (commands_stay commands p.blocks) p.runs;
    octets_are = p.octets_are ∙ ap at_first (texts_stay (names_of w moment) 1 commands p.blocks);
  }

  pub as_pages : PrintsRun judge w moment commands octets → PrintsPaged judge w moment (map Plain commands) octets
  as_pages p = record {
    blocks = p.blocks;
    past = p.past;
    runs = subst (λ (cs : List Command). IsRun judge w cs p.blocks p.past) (sym (commands_stay commands p.blocks)) p.runs;
    octets_are = p.octets_are ∙ ap at_first (sym (texts_stay (names_of w moment) 1 commands p.blocks));
  }

pub plain_is_run : PlainIsRun
plain_is_run = (commands_stay, texts_stay)
