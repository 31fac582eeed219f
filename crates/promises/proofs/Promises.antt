-- THE PROMISES ARE KEPT. Assumes nothing.
use Rattle.promises.specs.Promises.{Promises}
use Rattle.promises.proofs.Demand1 as One
use Rattle.promises.proofs.Demand2 as Two
use Rattle.promises.proofs.Demand3 as Three
use Rattle.promises.proofs.Slots as S
use Rattle.promises.proofs.Unique as U
use Rattle.promises.proofs.Kept as K
use Rattle.promises.proofs.KeptOut as O
use Rattle.promises.proofs.PutBacks as B
use Rattle.promises.proofs.Queried as Q
use Rattle.promises.proofs.Local as L

pub promises : Promises
promises = record {
  demand_1 = One.demand_1;
  fresh_refuses = One.fresh_refuses;
  fresh_untouched = One.fresh_untouched;
  demand_2 = Two.demand_2;
  two_sites = Two.two_sites;
  answers = K.answers;
  demand_3 = Three.demand_3;
  keeps_slot = S.keeps_slot;
  slot_was_free = S.slot_was_free;
  kept_out = O.kept_out;
  counts_put_backs = B.counts_put_backs;
  put_backs_shown = B.put_backs_shown;
  put_backs_committed = B.put_backs_committed;
  back_at_most = B.back_at_most;
  queried = Q.queried;
  one_point = Q.one_point;
  same_point = Q.same_point;
  only_work_reads = Q.only_work_reads;
  keeps_w = Q.keeps_w;
  fresh_ready = K.fresh_ready;
  stays_sound = K.stays_sound;
  stays_right = K.stays_right;
  accepted = K.accepted;
  w_bounded = K.w_bounded;
  left_bounded = K.left_bounded;
  mark_bounded = K.mark_bounded;
  work_alike = L.work_alike;
  read_alike = L.read_alike;
  offer_alike = L.offer_alike;
  confirm_alike = L.confirm_alike;
  query_alike = L.query_alike;
  others_left = L.others_left;
  one_outcome = U.one_outcome;
  one_fresh = U.one_fresh;
  one_run = U.one_run;
  one_run_from_fresh = U.one_run_fresh;
}
