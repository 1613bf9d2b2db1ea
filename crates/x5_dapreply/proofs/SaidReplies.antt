-- What is read straight of a reply's octets is what decoding answers, and a reply that is written is heard again.
use Rattle.std.proofs.Common.{◌≡◌, ℕ, List, [], ap, sym, subst}
use Rattle.std.specs.declared.result.Result.{Result}
use Rattle.std.specs.declared.result.Result.TheVariants.{Ok}
use Rattle.x5_model_messages.specs.Replies as replies
use Rattle.x5_model_octets.specs.Breaches.{Breach}
use Rattle.x5_model_typed.specs.Named.{Named}
use Rattle.x5_model_typed.specs.Nodes.{Node}
use Rattle.x5_ops.specs.declared.answers.Reply.{Reply}
use Rattle.x5_typed.specs.Comes.{ComesTo}
use Rattle.x5_dapber.specs.Results.{Decodes}
use Rattle.x5_direct.specs.Spelled.{Reads}
use Rattle.x5_dapreply.specs.ReplyViews.{heard, heard_in, unnumbered}
use Rattle.x5_dapreply.specs.Told.{IsTold}
use Rattle.x5_dapreply.proofs.RepliesBack.{replies_back}
use Rattle.x5_dapber.proofs.Coming.{comes_only}
use Rattle.x5_dapreply.proofs.WholeSpelling.{spelled_whole}

abbrev pub seen : ℕ × Reply → ℕ × replies.Reply
seen p = (p.0, heard p.1)

pub said_decodes : (form : Named) (octets : List ℕ) (p : ℕ × Reply) → Reads 12 form heard_in (seen p) octets []
    → (e : Result Node Breach) → ComesTo form octets e → Decodes seen heard_in e (Ok p)
said_decodes form octets p r e comes =
    let w = spelled_whole form heard_in (seen p) octets r in
    subst (λ (v : Result Node Breach). Decodes seen heard_in v (Ok p))
    (sym (comes_only form octets w.0 w.1 e comes)) w.2

pub heard_back : (referral id : ℕ) (r : replies.Reply) → IsTold r
    → heard_in (replies.reply_node referral id r) ≡ (id, unnumbered r)
heard_back referral id r h = ap (λ (p : ℕ × replies.Reply). (p.0, unnumbered p.1)) (replies_back referral id r h)
