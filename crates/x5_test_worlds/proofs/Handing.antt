-- An agent of any network can hold nothing; and what its agents hold leaves a network the room that it has.
use Rattle.std.proofs.Common.{◌≡◌, ℕ, List, [], refl, sym, subst, None}
use Rattle.x5_model_run.specs.Holdings.{Holdings}
use Rattle.x5_world.specs.Logs.{Logs}
use Rattle.x5_world.specs.Places.{FitsPlace}
use Rattle.x5_world.specs.State.{HasRoom, Net}

pub nothing_fits : (agents a : ℕ)
    → FitsPlace agents a (record { me = a; moment = 0; superior = None; own = []; copies = []; root = []; cross = [] })
nothing_fits agents a = record {
  me = refl;
  known = refl;
  counted = refl;
  bounded = record {
    own = λ x i. elim i [ ];
    copies = λ x i. elim i [ ];
    root = λ x i. elim i [ ];
    cross = λ x i. elim i [ ];
  };
  noted = record { own = λ x i. elim i [ ]; copies = λ x i. elim i [ ] };
}

pub room_stays : (old new : Net) (holdings : List Holdings) (logs : List Logs)
    → new ≡ record old { agents = holdings; logs = logs } → (lines : ℕ) → HasRoom old lines → HasRoom new lines
room_stays old new holdings logs e lines room =
    subst (λ (n : Net). HasRoom n lines) (sym e) (record { line = room.line; sent = room.sent; lost = room.lost })
