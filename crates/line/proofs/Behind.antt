-- What was put behind a line that has room for it. Assumes nothing.
use mathlib.Core.Path.{◌≡◌, subst}
use Rattle.std.proofs.Common.{Result, Ok, OnOk}

-- what holds where all went well
pub went_well : {T E : Type 0} (P : Type 0) (r : Result T E) (v : T) → r ≡ Ok v → OnOk r P → P
went_well {T} {E} P r v e h = subst (λ (q : Result T E). OnOk q P) e h
