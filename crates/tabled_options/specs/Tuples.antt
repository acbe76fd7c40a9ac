-- A tuple of options is the settings of its parts before the last one, and of that one.

-- those of three
abbrev pub settings_of_three : {A B C : Type 0} → A × B × C → (A × B) × C
settings_of_three s = ((s.0, s.1), s.2)

-- those of four
abbrev pub settings_of_four : {A B C D : Type 0} → A × B × C × D → (A × B × C) × D
settings_of_four s = ((s.0, s.1, s.2), s.3)

-- those of five
abbrev pub settings_of_five : {A B C D E : Type 0} → A × B × C × D × E → (A × B × C × D) × E
settings_of_five s = ((s.0, s.1, s.2, s.3), s.4)

-- those of six
abbrev pub settings_of_six : {A B C D E F : Type 0} → A × B × C × D × E × F → (A × B × C × D × E) × F
settings_of_six s = ((s.0, s.1, s.2, s.3, s.4), s.5)

-- those of seven
abbrev pub settings_of_seven : {A B C D E F G : Type 0} → A × B × C × D × E × F × G → (A × B × C × D × E × F) × G
settings_of_seven s = ((s.0, s.1, s.2, s.3, s.4, s.5), s.6)

-- those of eight
abbrev pub settings_of_eight : {A B C D E F G H : Type 0} → A × B × C × D × E × F × G × H → (A × B × C × D × E × F × G) × H
settings_of_eight s = ((s.0, s.1, s.2, s.3, s.4, s.5, s.6), s.7)

-- those of nine
abbrev pub settings_of_nine : {A B C D E F G H I : Type 0} → A × B × C × D × E × F × G × H × I → (A × B × C × D × E × F × G × H) × I
settings_of_nine s = ((s.0, s.1, s.2, s.3, s.4, s.5, s.6, s.7), s.8)

-- those of ten
abbrev pub settings_of_ten : {A B C D E F G H I J : Type 0} → A × B × C × D × E × F × G × H × I × J → (A × B × C × D × E × F × G × H × I) × J
settings_of_ten s = ((s.0, s.1, s.2, s.3, s.4, s.5, s.6, s.7, s.8), s.9)
