use Rattle.std.proofs.Common.{refl}
use Rattle.tabled_html_reading.specs.Forming.{forming_a_table}
use Rattle.tabled_html_reading.proofs.laws.odd_tables_are_read_as_others_do.Goals as goal

pub returns-clause-read : goal.returns-clause-read
unfolding lib.Utf8.encode
returns-clause-read c = record { read_0 = refl; read_1 = refl; read_2 = refl; read_3 = refl; read_4 = refl; read_5 = refl; read_6 = refl; read_7 = refl; read_8 = refl; read_9 = refl; read_10 = refl; read_11 = refl; read_12 = refl; read_13 = refl; read_14 = refl; read_15 = refl; read_16 = refl; read_17 = refl; read_18 = refl; read_19 = refl; read_20 = refl; read_21 = refl; read_22 = refl; read_23 = refl; read_24 = refl; read_25 = refl; read_26 = refl; read_27 = refl; read_28 = refl; read_29 = refl; read_30 = refl; read_31 = refl; read_32 = refl; read_33 = refl; read_34 = refl; read_35 = refl }

pub returns-clause-formed : goal.returns-clause-formed
unfolding forming_a_table
returns-clause-formed c = record { wide_0 = refl; wide_1 = refl; wide_2 = refl; wide_3 = refl; wide_4 = refl; wide_5 = refl; wide_6 = refl; wide_7 = refl; wide_8 = refl; wide_9 = refl; wide_10 = refl; wide_11 = refl; slots_0 = refl; slots_1 = refl; slots_2 = refl; slots_3 = refl; slots_4 = refl; slots_5 = refl; slots_6 = refl; slots_7 = refl; slots_8 = refl; slots_9 = refl; slots_10 = refl; slots_11 = refl }
