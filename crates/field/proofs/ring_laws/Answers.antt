-- What is left to show of `ring_laws`.
use lib.Bits.{xor_assoc, xor_comm, xor_self, xor_zero_r, xor_lt}
use Rattle.field.proofs.Laws.{mul_lt, mul_comm, mul_assoc, mul_xor_r, mul_one_r}
use Rattle.field.proofs.ring_laws.Goals as goal

pub returns : goal.returns
returns c =
    record {
      add_associates = xor_assoc;
      add_commutes = xor_comm;
      add_zero = xor_zero_r;
      add_self = xor_self;
      add_closed = λ a b. xor_lt 10 a b;
      mul_associates = mul_assoc;
      mul_commutes = mul_comm;
      mul_one = mul_one_r;
      mul_closed = mul_lt;
      distributes = mul_xor_r;
    }
