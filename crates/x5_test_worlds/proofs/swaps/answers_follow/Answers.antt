-- Handed over, holdings leave the network room for one line more.
use Rattle.x5_test_worlds.proofs.swaps.answers_follow.Goals as goal

pub is_called-requires-2-clause-room : goal.is_called-requires-2-clause-room
is_called-requires-2-clause-room c = c.hand_over.ensures.to_room 1 c.in_ok-before.ensures
