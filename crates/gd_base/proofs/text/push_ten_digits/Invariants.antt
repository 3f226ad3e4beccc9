use Rattle.std.proofs.Common.{◌≡◌, ◌≤◌, ◌++◌, ◌-◌, length, replicate}
use Rattle.gd_base.proofs.text.push_ten_digits.Given as goal

-- a zero for each place in front of the digits
abbrev pub invariant-loop : goal.invariant-loop
invariant-loop l = record {
  within : l.counter ≤ 10;
  from : length l.digits ≤ l.counter;
  bytes : l.text.bytes ≡ l.fn.text.bytes ++ replicate (l.counter - length l.digits) 48;
}
