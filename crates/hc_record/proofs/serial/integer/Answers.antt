use Rattle.std.proofs.Common.{◌+◌, ◌-◌, ◌^◌, ◌<◌, ◌*◌, ℕ, arith, subst, sym, rules, length}
use Rattle.std.proofs.lemmas.List.Sums.{fold_more}
use Rattle.hc_record.specs.Reading.{bits_above}
use Rattle.hc_record.proofs.Bounds.{byte_fits, bytes_fit}
use Rattle.hc_record.proofs.serial.integer.Goals as goal

pub overflow_mul-bits : goal.overflow_mul-bits
overflow_mul-bits c =
    omega (arith, bytes_fit (c.loop-byte.bits * 256 + 0) (8 - length c.args.bytes.now + c.loop-byte.byte-index + 1) (omega (arith, c.requires, c.loop-byte-test.true)) (byte_fits c.loop-byte.bits (8 - length c.args.bytes.now + c.loop-byte.byte-index) 0 c.loop-byte.invariant.fits (omega arith)))

pub overflow_add-bits : goal.overflow_add-bits
overflow_add-bits c =
    omega (arith, bytes_fit (c.loop-byte.bits * 256 + c.from.result) (8 - length c.args.bytes.now + c.loop-byte.byte-index + 1) (omega (arith, c.requires, c.loop-byte-test.true)) (byte_fits c.loop-byte.bits (8 - length c.args.bytes.now + c.loop-byte.byte-index) c.from.result c.loop-byte.invariant.fits (search rules)))

pub loop-byte-preserved : goal.loop-byte-preserved
loop-byte-preserved c =
    record {
      so_far = rw (c.from.ensures, c.loop-byte.invariant.so_far) (sym (fold_more (λ high byte. high * 256 + byte) (bits_above c.args.bytes.now) c.args.bytes.now c.loop-byte.byte-index 0 c.loop-byte-test.true));
      fits = subst (λ (k : ℕ). c.loop-byte.bits * 256 + c.from.result < 256 ^ k) (omega arith) (byte_fits c.loop-byte.bits (8 - length c.args.bytes.now + c.loop-byte.byte-index) c.from.result c.loop-byte.invariant.fits (search rules));
    }
