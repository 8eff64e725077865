use Rattle.std.proofs.Common.{◌≡◌, ◌∙◌, ◌-◌, ap, arith, ◌++◌}
use Rattle.std.proofs.Common.{take, length}
use Rattle.std.proofs.lemmas.List.{take_all, length-drop}
use Rattle.hc_record.proofs.Steps.{on_ok}
use Rattle.std.proofs.Common.{drop, w64, to_z, of_z}
use Rattle.std.specs.Int.{bytes_high_first}
use Rattle.std.proofs.lemmas.Int.{to_z-of_z}
use Rattle.hc_record.specs.Record.{body_len, type_of_int}
use Rattle.hc_record.proofs.Bounds.{low_bytes}
use Rattle.hc_record.proofs.Integers.{int_body_len}
use Rattle.hc_record.proofs.serial.push_integer.Goals as goal

pub overflow_sub-len : goal.overflow_sub-len
overflow_sub-len c = rw (c.body_len-len.ensures, c.int_type.ensures) (int_body_len (to_z w64 (of_z w64 c.args.n)))

pub returns : goal.returns
returns c =
    let same : to_z w64 (of_z w64 c.args.n) ≡ c.args.n = to_z-of_z w64 c.args.n c.ranges.n in
    let len : c.body_len-len.result ≡ body_len (type_of_int c.args.n) = c.body_len-len.ensures ∙ ap body_len (c.int_type.ensures ∙ ap type_of_int same) in
    let bytes : c.to_be_bytes-bytes.result ≡ bytes_high_first 8 (of_z w64 c.args.n) = c.to_be_bytes-bytes.ensures ∙ ap (λ z. bytes_high_first 8 (of_z w64 z)) same in
    let low : drop (8 - c.body_len-len.result) c.to_be_bytes-bytes.result ≡ bytes_high_first (body_len (type_of_int c.args.n)) (of_z w64 c.args.n) = rw (len, bytes) (low_bytes (body_len (type_of_int c.args.n)) (of_z w64 c.args.n) (int_body_len c.args.n)) in
    let all : take (8 - (8 - c.body_len-len.result)) (drop (8 - c.body_len-len.result) c.to_be_bytes-bytes.result) ≡ bytes_high_first (body_len (type_of_int c.args.n)) (of_z w64 c.args.n) =
    take_all (8 - (8 - c.body_len-len.result)) (drop (8 - c.body_len-len.result) c.to_be_bytes-bytes.result) (omega (arith, length-drop (8 - c.body_len-len.result) c.to_be_bytes-bytes.result, ap length bytes)) ∙ low in
    on_ok c.extend_from_slice.result c.extend_from_slice.new.self.items (c.args.out.now.items ++ take (8 - (8 - c.body_len-len.result)) (drop (8 - c.body_len-len.result) c.to_be_bytes-bytes.result)) c.args.out.now.items (c.args.out.now.items ++ bytes_high_first (body_len (type_of_int c.args.n)) (of_z w64 c.args.n)) c.extend_from_slice.ensures.items (ap (λ l. c.args.out.now.items ++ l) all)
