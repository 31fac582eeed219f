use Rattle.std.proofs.Common.{◌≡◌, length}
use Rattle.site.specs.Held.{state_of}
use Rattle.drive.proofs.Listing.{Whole}
use Rattle.drive.proofs.run.Given as goal

abbrev pub invariant-loop : goal.invariant-loop
invariant-loop g l = record {
  input : length l.input ≡ 32400;
  text : length l.text ≡ 65536;
  committed : length l.committed ≡ length l.initial.committed;
  working : length l.working ≡ length l.initial.working;
  ran : Whole (state_of l.initial.site l.initial.committed l.initial.working) (state_of l.site l.committed l.working) l.place;
}
