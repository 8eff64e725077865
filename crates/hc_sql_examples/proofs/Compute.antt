-- All that unfolds where a statement is worked out.
unfoldable pub everything : Unit {0}
unfolding
    Rattle.hc_base.specs.Entries.entry_fits Rattle.hc_range.specs.Order.is_below Rattle.hc_record.specs.Record.body_len
    Rattle.hc_record.specs.Record.type_of_magnitude Rattle.hc_record.specs.Record.header_len Rattle.hc_record.specs.Record.encoding
    Rattle.hc_record.specs.Varint.varint_len Rattle.hc_record.specs.Varint.varint
    Rattle.std.specs.Fmt.digits Rattle.hc_key.specs.Keys.value_bytes Rattle.hc_key.specs.Keys.key_bytes
everything = tt
