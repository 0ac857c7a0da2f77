-- What may be there or not.
use Rattle.std.proofs.Common.{◌≡◌, Some, None}

-- what is there is one thing
pub some_same : {A : Type 0} {x y : A} → Some x ≡ Some y → x ≡ y
some_same e = cc

-- nothing is not something
pub none_some : {A : Type 0} {x : A} → None ≡ Some x → ⊥
none_some e = cc
