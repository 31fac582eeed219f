-- The thirteen events of document 01's driving program and their listing, computed. Assumes nothing.
use mathlib.Core.Path.{◌≡◌, refl}
use mathlib.Core.List.{List, [], ◌∷◌}
use Rattle.plain.specs.Ops.{put, add, carry, op_ok, valid}
use Rattle.plain.specs.Record.{request_in, is_record, request}
use Rattle.plain.specs.Steps.{Answer, refused, queued, stepped, executed, committed, waiting, value, offer_step, work_step, confirm_step}
use Rattle.plain.specs.Site.{Call, work, confirm, read, fresh, call, act, refusal, class_of, is_free, slot_free, number_queued, is_kept}
use Rattle.plain.specs.Site.{sum, standing}
use Rattle.plain.proofs.Written.{four_bytes, bytes_of_op, ops_bytes, record_of, offer_of, answers}

pub events : List Call
events =
    offer_of 7 3 (put 0 100 ∷ add 1 5 ∷ [])
    ∷ offer_of 9 3 (add 0 4294967295 ∷ [])
    ∷ work 3
    ∷ confirm 9 1
    ∷ work 3
    ∷ read 3 0
    ∷ work 3
    ∷ work 3
    ∷ read 3 1
    ∷ confirm 7 3
    ∷ confirm 7 2
    ∷ read 3 0
    ∷ work 3
    ∷ []

pub lines : List Answer
lines =
    queued 7 3 1 0
    ∷ queued 9 3 2 1
    ∷ stepped 7 1
    ∷ waiting 9 1 7
    ∷ committed 9 1 0 1 0
    ∷ value 4294967295
    ∷ stepped 7 1
    ∷ executed 7
    ∷ value 0
    ∷ refused 7
    ∷ committed 7 2 0 0 1
    ∷ value 100
    ∷ refused 11
    ∷ []

pub listing : answers fresh events ≡ lines
unfolding events lines four_bytes bytes_of_op ops_bytes record_of offer_of answers fresh call act refusal class_of is_free slot_free number_queued is_kept sum standing offer_step work_step confirm_step request_in is_record request valid op_ok carry
listing = refl
