-- Odd tables, read as html5lib reads them, and formed as Chromium forms them. Made by `bench/html/odd_tables --write`.
use Rattle.std.specs.Prelude.{◌≡◌, ◌++◌, ℕ, List, [], ◌∷◌, None, Option, Some, codes, false, map, true}
use Rattle.tabled_html_reading.specs.Building.{parsed}
use Rattle.tabled_html_reading.specs.Elements.{Attribute, Element, Group, Table}
use Rattle.tabled_html_reading.specs.Forming.{Cell, Forming, cells_at, forming_a_table}

-- an attribute, by its name and its value
abbrev pub attribute : List ℕ → List ℕ → Attribute
attribute name value = record { name = name; value = value }

-- an element of a cell
abbrev pub td : List Attribute → List ℕ → Element
td attributes text = record { is_header = false; attributes = attributes; text = text }

-- an element of a header cell
abbrev pub th : List Attribute → List ℕ → Element
th attributes text = record { is_header = true; attributes = attributes; text = text }

-- a head of rows
abbrev pub thead : List (List Element) → Group
thead rows = record { is_head = true; rows = rows }

-- a body of rows
abbrev pub tbody : List (List Element) → Group
tbody rows = record { is_head = false; rows = rows }

-- a table, where there is one
abbrev pub table : List Attribute → Option (List ℕ) → List Group → Option Table
table attributes caption groups = Some (record { attributes = attributes; caption = caption; groups = groups })

-- what odd texts are read as
pub record AreOddRead : Type 0 where
  pub read_0 : parsed (codes "<table >" ++ (12 ∷ (codes "<Caption></caption ><tbody><tr >\n<td\r\nrowspan=\"0\">&#159;</td >\r\n<TD></TD>  </TR >" ++ (9 ∷ codes "<tr>  <th\r\nClass=\"\">&#xg&#X4a</TH>  </tr></Tbody>\r\n</Table>")))) ≡ table [] (Some []) (tbody ((td (attribute (codes "rowspan") (codes "0") ∷ []) (197 ∷ 184 ∷ []) ∷ td [] [] ∷ []) ∷ (th (attribute (codes "class") [] ∷ []) (codes "&#xgJ") ∷ []) ∷ []) ∷ [])
  pub read_1 : parsed (codes "<table>\r\n<thead\n><TR > <th colspan=\n\"2\" >]]>&#65;&;\r</Th>" ++ (12 ∷ (codes "</TR > <Tr >\r\n</tr> </THEAD>  </table >" ++ (12 ∷ [])))) ≡ table [] None (thead ((th (attribute (codes "colspan") (codes "2") ∷ []) (codes "]]>A&;\n") ∷ []) ∷ [] ∷ []) ∷ [])
  pub read_2 : parsed (codes "<Table >\n<caption>&#X4a</Caption><tr>\r\n<TD >&" ++ (226 ∷ (128 ∷ (168 ∷ (codes "</td><TD>" ++ (1 ∷ codes "&#;</td>\r\n</TR></TABLE>")))))) ≡ table [] (Some (codes "J")) (tbody ((td [] (codes "&" ++ (226 ∷ 128 ∷ 168 ∷ [])) ∷ td [] (1 ∷ codes "&#;") ∷ []) ∷ []) ∷ [])
  pub read_3 : parsed (codes "<table>\n<tbody\n></TBODY > <Tbody>\n<tr ><td></td>\r\n<TH\n>" ++ (9 ∷ (codes "&-&#1114111;&#10;</th >\n</tr><TR>\n<td Rowspan=\n\"0\">&#x" ++ (194 ∷ (128 ∷ (codes "</Td>  </TR>\n<Tr>\n</TR ></tbody> </table>" ++ (9 ∷ []))))))) ≡ table [] None (tbody [] ∷ tbody ((td [] [] ∷ th [] (9 ∷ (codes "&-" ++ (244 ∷ 143 ∷ 191 ∷ 191 ∷ codes "\n"))) ∷ []) ∷ (td (attribute (codes "rowspan") (codes "0") ∷ []) (codes "&#x" ++ (194 ∷ 128 ∷ [])) ∷ []) ∷ [] ∷ []) ∷ [])
  pub read_4 : parsed (codes "<table >  <caption>\n</CAPTION ><TBODY >" ++ (12 ∷ (codes "<Tr\n>" ++ (12 ∷ (codes "<td" ++ (12 ∷ (codes "CLASS=\n\"<'>\" >&#xg" ++ (194 ∷ (128 ∷ (codes "</td > <TD>&#x41;</Td><td\r\ncolspan=\n\"1000\"\n></Td>" ++ (9 ∷ (codes "</tr>" ++ (12 ∷ codes "<tr></tr >  </tbody > </TABLE>"))))))))))))) ≡ table [] (Some (codes "\n")) (tbody ((td (attribute (codes "class") (codes "<'>") ∷ []) (codes "&#xg" ++ (194 ∷ 128 ∷ [])) ∷ td [] (codes "A") ∷ td (attribute (codes "colspan") (codes "1000") ∷ []) [] ∷ []) ∷ [] ∷ []) ∷ [])
  pub read_5 : parsed (codes "<TABLE\n> <tbody>" ++ (12 ∷ (codes "<TR>  </tr >" ++ (12 ∷ (codes "</tbody><tr\n>\r\n<Td\nColspan= \"2\"\n>&#1114111;" ++ (226 ∷ (128 ∷ (168 ∷ (codes "</TD></tr><Tr>  <TD>&#xdfff;</TD>" ++ (12 ∷ (codes "</Tr>  <tr>  <td>&#1114112;" ++ (1 ∷ (12 ∷ (codes "&#x41;</td> </tr>\r\n<Thead>  </thead >" ++ (12 ∷ codes "</table>"))))))))))))))) ≡ None
  pub read_6 : parsed (codes "<TABLE\n>\n<tbody>\r\n<tr\n>\r\n<Th>&&&#x41;</Th>" ++ (9 ∷ codes "<TD\nClass=\"<'>\"\ncolspan=\"2\">'</td >\r\n<Th></th></Tr ></tbody> </Table>")) ≡ table [] None (tbody ((th [] (codes "&&A") ∷ td (attribute (codes "class") (codes "<'>") ∷ attribute (codes "colspan") (codes "2") ∷ []) (codes "'") ∷ th [] [] ∷ []) ∷ []) ∷ [])
  pub read_7 : parsed (codes "<table\r\nCLASS= \"wide\"><thead> <tr\n><TD >a&lt;</Td>  <TD\n>\r</td>\n<Td" ++ (12 ∷ (codes "CLASS=\"\"\nRowspan=\"0\">&amp;</TD></tr >" ++ (12 ∷ (codes "<TR >\r\n</tr></thead><tbody>" ++ (12 ∷ codes "</tbody></TABLE>")))))) ≡ table (attribute (codes "class") (codes "wide") ∷ []) None (thead ((td [] (codes "a<") ∷ td [] (codes "\n") ∷ td (attribute (codes "class") [] ∷ attribute (codes "rowspan") (codes "0") ∷ []) (codes "&") ∷ []) ∷ [] ∷ []) ∷ tbody [] ∷ [])
  pub read_8 : parsed (codes "<Table >\n<tr>" ++ (12 ∷ (codes "</Tr>" ++ (9 ∷ (codes "<tr >" ++ (9 ∷ (codes "<td " ++ (9 ∷ codes "ROWSPAN= \"1\"\n></td> <TD\r\nRowspan= \"1\"\n>&#10;</TD></Tr >\r\n<Tr>\r\n</tr> </table>")))))))) ≡ table [] None (tbody ([] ∷ (td (attribute (codes "rowspan") (codes "1") ∷ []) [] ∷ td (attribute (codes "rowspan") (codes "1") ∷ []) (codes "\n") ∷ []) ∷ [] ∷ []) ∷ [])
  pub read_9 : parsed (codes "<TABLE\n><thead >\n<tr></tr>  </thead>\n<thead> <Tr><td>" ++ (1 ∷ (codes "</td>  </Tr> </thead >\n</TABLE>" ++ (9 ∷ [])))) ≡ table [] None (thead ([] ∷ []) ∷ thead ((td [] (1 ∷ []) ∷ []) ∷ []) ∷ [])
  pub read_10 : parsed (codes "<table " ++ (9 ∷ (codes "Class= \"wide\" ><Tbody >\n<TR>  <Th\r\ncolspan=\"2000\">\r\n&-</TH ></tr>\n</tbody ></Table>" ++ (9 ∷ [])))) ≡ table (attribute (codes "class") (codes "wide") ∷ []) None (tbody ((th (attribute (codes "colspan") (codes "2000") ∷ []) (codes "\n&-") ∷ []) ∷ []) ∷ [])
  pub read_11 : parsed (codes "<Table" ++ (12 ∷ (codes "Class=\n\"wide\" > <Caption>" ++ (9 ∷ (codes "</caption><tbody><tr > <td" ++ (12 ∷ (codes "class=\"<'>\"\n>" ++ (194 ∷ (128 ∷ (codes "&amp;&#x41;" ++ (194 ∷ (159 ∷ (codes "</TD></tr><TR>\n<Td colspan=\"2000\">&#0;</td>  <td></Td>  </tr>\r\n</TBODY ><tbody></tbody> </TABLE>" ++ (12 ∷ [])))))))))))))) ≡ table (attribute (codes "class") (codes "wide") ∷ []) (Some (9 ∷ [])) (tbody ((td (attribute (codes "class") (codes "<'>") ∷ []) (194 ∷ (128 ∷ (codes "&A" ++ (194 ∷ 159 ∷ [])))) ∷ []) ∷ (td (attribute (codes "colspan") (codes "2000") ∷ []) (239 ∷ 191 ∷ 189 ∷ []) ∷ td [] [] ∷ []) ∷ []) ∷ tbody [] ∷ [])
  pub read_12 : parsed (codes "<TABLE><tbody>\r\n<Tr\n><th\ncolspan=\"1000\"\n></th>\n</tr >" ++ (9 ∷ (codes "<tr ><TD>&gt;</td ><th" ++ (12 ∷ (codes "CLASS= \"a b\">" ++ (194 ∷ (128 ∷ (codes "&#x80;</th>\n</TR>" ++ (9 ∷ codes "</tbody></TABLE >  "))))))))) ≡ table [] None (tbody ((th (attribute (codes "colspan") (codes "1000") ∷ []) [] ∷ []) ∷ (td [] (codes ">") ∷ th (attribute (codes "class") (codes "a b") ∷ []) (194 ∷ 128 ∷ 226 ∷ 130 ∷ 172 ∷ []) ∷ []) ∷ []) ∷ [])
  pub read_13 : parsed (codes "<TABLE ><caption>\n</Caption>\r\n<tbody\n><tr><th\ncolspan=\"0\">&#xdfff;&#xD800;&#1114111;&-</TH >" ++ (12 ∷ (codes "<th ></th> </Tr></tbody>" ++ (12 ∷ (codes "</table >" ++ (12 ∷ [])))))) ≡ table [] (Some (codes "\n")) (tbody ((th (attribute (codes "colspan") (codes "0") ∷ []) (239 ∷ 191 ∷ 189 ∷ 239 ∷ 191 ∷ 189 ∷ 244 ∷ 143 ∷ 191 ∷ 191 ∷ codes "&-") ∷ th [] [] ∷ []) ∷ []) ∷ [])
  pub read_14 : parsed (codes "<TABLE>  <Tr> <td >\r\n>&#1114111;" ++ (195 ∷ (169 ∷ (codes "</td ><td\r\nRowspan= \"1\" rowspan=\"65535\">& </TD></TR> <Tr\n>" ++ (12 ∷ (codes "<Td\r\nclass=\"\">" ++ (9 ∷ 226 ∷ 128 ∷ 168 ∷ codes "&gt;&-</Td > <TH ></TH>  </tr></Table>"))))))) ≡ table [] None (tbody ((td [] (codes "\n>" ++ (244 ∷ 143 ∷ 191 ∷ 191 ∷ 195 ∷ 169 ∷ [])) ∷ td (attribute (codes "rowspan") (codes "1") ∷ []) (codes "& ") ∷ []) ∷ (td (attribute (codes "class") [] ∷ []) (9 ∷ 226 ∷ 128 ∷ 168 ∷ codes ">&-") ∷ th [] [] ∷ []) ∷ []) ∷ [])
  pub read_15 : parsed (codes "<TABLE>\r\n<tbody\n><tr>" ++ (12 ∷ (codes "<Th\nrowspan=\"0\"></TH >" ++ (12 ∷ (codes "<th rowspan=\"3\"\n></Th>  </TR>" ++ (9 ∷ (codes "<TR>" ++ (12 ∷ (codes "<td\r\nclass=\"a\r\nb\"\n>&#1114112;</td >" ++ (12 ∷ (codes "<Td >&#x80;\r\n</td></Tr ><tr><Td\nclass=\"a b\" >&#x</td>" ++ (9 ∷ codes "</TR></tbody></Table >\r\n")))))))))))) ≡ table [] None (tbody ((th (attribute (codes "rowspan") (codes "0") ∷ []) [] ∷ th (attribute (codes "rowspan") (codes "3") ∷ []) [] ∷ []) ∷ (td (attribute (codes "class") (codes "a\nb") ∷ []) (239 ∷ 191 ∷ 189 ∷ []) ∷ td [] (226 ∷ 130 ∷ 172 ∷ codes "\n") ∷ []) ∷ (td (attribute (codes "class") (codes "a b") ∷ []) (codes "&#x") ∷ []) ∷ []) ∷ [])
  pub read_16 : parsed (codes "<Table>\r\n<tr>" ++ (12 ∷ (codes "<TD >]]>" ++ (194 ∷ (159 ∷ (codes "\n&#x80;</TD><td\nCOLSPAN= \"1\"" ++ (12 ∷ (codes "Rowspan=\"0\">\n</Td ><TD >&&&amp;lt;&#" ++ (240 ∷ 159 ∷ 145 ∷ 141 ∷ codes "</Td></tr>\r\n</table>  "))))))))) ≡ table [] None (tbody ((td [] (codes "]]>" ++ (194 ∷ (159 ∷ (codes "\n" ++ (226 ∷ 130 ∷ 172 ∷ []))))) ∷ td (attribute (codes "colspan") (codes "1") ∷ attribute (codes "rowspan") (codes "0") ∷ []) (codes "\n") ∷ td [] (codes "&&&lt;&#" ++ (240 ∷ 159 ∷ 145 ∷ 141 ∷ [])) ∷ []) ∷ []) ∷ [])
  pub read_17 : parsed (codes "<Table><thead><TR >\r\n</tr >\n<tr>\n<Td" ++ (12 ∷ (codes "Class=\"a b\"" ++ (12 ∷ (codes "Colspan=\"3\"\nclass=\"1\">&#065&amp;lt;</td></tr> <TR\n>  <Th" ++ (12 ∷ (codes "class=\n\"a\r\nb\"" ++ (12 ∷ (codes "COLSPAN=\"2000\"\r\nrowspan= \"0\">" ++ (226 ∷ 128 ∷ 168 ∷ codes "&#65;&-&amp;lt;</TH>\n</TR >\r\n</THEAD >\r\n</TABLE>")))))))))) ≡ table [] None (thead ([] ∷ (td (attribute (codes "class") (codes "a b") ∷ attribute (codes "colspan") (codes "3") ∷ []) (codes "A&lt;") ∷ []) ∷ (th (attribute (codes "class") (codes "a\nb") ∷ attribute (codes "colspan") (codes "2000") ∷ attribute (codes "rowspan") (codes "0") ∷ []) (226 ∷ 128 ∷ 168 ∷ codes "A&-&lt;") ∷ []) ∷ []) ∷ [])
  pub read_18 : parsed (codes "<Table\n><tr><TD CLASS=\"<'>\"\nCOLSPAN=\"1\"></TD >\r\n<Td\n>&#xg</td ></tr> <Tr\n>" ++ (12 ∷ (codes "<td></TD>" ++ (9 ∷ codes "<Td\r\nrowspan= \"002\"\r\ncolspan= \"3\">&#65;&#;</Td></Tr >\n<Tr></TR ></table >\n")))) ≡ table [] None (tbody ((td (attribute (codes "class") (codes "<'>") ∷ attribute (codes "colspan") (codes "1") ∷ []) [] ∷ td [] (codes "&#xg") ∷ []) ∷ (td [] [] ∷ td (attribute (codes "rowspan") (codes "002") ∷ attribute (codes "colspan") (codes "3") ∷ []) (codes "A&#;") ∷ []) ∷ [] ∷ []) ∷ [])
  pub read_19 : parsed (codes "<TABLE\r\nclass=\"wide\"\n>\n<Tbody >" ++ (9 ∷ (codes "<tr ><TH\n></th></TR>  </tbody><THEAD><Tr >\n<th Class=\"\"\n></th > <TD " ++ (9 ∷ (codes "colspan=\"3\" class=\"<'>\">\r" ++ (1 ∷ (codes "</td >\n</tr >\n<tr ><TD\n>\r" ++ (1 ∷ (codes "</TD> </tr > </Thead></table>" ++ (12 ∷ [])))))))))) ≡ table (attribute (codes "class") (codes "wide") ∷ []) None (tbody ((th [] [] ∷ []) ∷ []) ∷ thead ((th (attribute (codes "class") [] ∷ []) [] ∷ td (attribute (codes "colspan") (codes "3") ∷ attribute (codes "class") (codes "<'>") ∷ []) (codes "\n" ++ (1 ∷ [])) ∷ []) ∷ (td [] (codes "\n" ++ (1 ∷ [])) ∷ []) ∷ []) ∷ [])
  pub read_20 : parsed (codes "<table>\n<tbody>" ++ (12 ∷ (codes "<TR> </Tr>" ++ (9 ∷ (codes "<tr>" ++ (9 ∷ (codes "<Th\n>" ++ (195 ∷ 169 ∷ 1 ∷ codes "&#&#1114111;</TH>\r\n</Tr > </Tbody>\r\n</table >\r\n")))))))) ≡ table [] None (tbody ([] ∷ (th [] (195 ∷ (169 ∷ (1 ∷ (codes "&#" ++ (244 ∷ 143 ∷ 191 ∷ 191 ∷ []))))) ∷ []) ∷ []) ∷ [])
  pub read_21 : parsed (codes "<table " ++ (9 ∷ (codes "class=\n\"wide\"> <TR ><Td >&lt;</TD>" ++ (9 ∷ codes "<Th\nrowspan=\n\"3\">&#xg</Th></tr >\r\n</TABLE>")))) ≡ table (attribute (codes "class") (codes "wide") ∷ []) None (tbody ((td [] (codes "<") ∷ th (attribute (codes "rowspan") (codes "3") ∷ []) (codes "&#xg") ∷ []) ∷ []) ∷ [])
  pub read_22 : parsed (codes "<table><TBODY >" ++ (9 ∷ (codes "<tr><td COLSPAN= \"2\" " ++ (9 ∷ (codes "CLASS= \"3\" >&amp;" ++ (226 ∷ (128 ∷ (168 ∷ (codes "</TD >" ++ (12 ∷ (codes "<TD class=\"<'>\"\r\nrowspan= \"65535\"\n>" ++ (12 ∷ (codes "& </td>\n</tr >" ++ (12 ∷ codes "</tbody>\n</table >\r\n")))))))))))))) ≡ table [] None (tbody ((td (attribute (codes "colspan") (codes "2") ∷ attribute (codes "class") (codes "3") ∷ []) (codes "&" ++ (226 ∷ 128 ∷ 168 ∷ [])) ∷ td (attribute (codes "class") (codes "<'>") ∷ attribute (codes "rowspan") (codes "65535") ∷ []) (12 ∷ codes "& ") ∷ []) ∷ []) ∷ [])
  pub read_23 : parsed (codes "<Table" ++ (12 ∷ (codes "class=\"wide\" >" ++ (9 ∷ (codes "<tbody\n>" ++ (12 ∷ (codes "<tr></tr><tr>\r\n</TR > </Tbody><tbody > </TBODY>\n<TBODY\n>  <TR>\r\n</tr >\r\n<TR>  <Th\ncolspan= \"0\">&lt;</TH >" ++ (9 ∷ codes "</Tr>\n</Tbody>  </table > ")))))))) ≡ table (attribute (codes "class") (codes "wide") ∷ []) None (tbody ([] ∷ [] ∷ []) ∷ tbody [] ∷ tbody ([] ∷ (th (attribute (codes "colspan") (codes "0") ∷ []) (codes "<") ∷ []) ∷ []) ∷ [])
  pub read_24 : parsed (codes "<table>" ++ (12 ∷ (codes "<caption></caption > <tbody><TR\n>" ++ (9 ∷ (codes "<TH\r\nColspan=\"1000\"></TH>  <td\n>\r\n</TD>" ++ (9 ∷ (codes "<TD>&#65;]]></td>  </tr >" ++ (9 ∷ (codes "</tbody >\n</table>" ++ (12 ∷ [])))))))))) ≡ table [] (Some []) (tbody ((th (attribute (codes "colspan") (codes "1000") ∷ []) [] ∷ td [] (codes "\n") ∷ td [] (codes "A]]>") ∷ []) ∷ []) ∷ [])
  pub read_25 : parsed (codes "<table> <CAPTION\n></caption>" ++ (12 ∷ (codes "<tbody><Tr >\r\n<td\r\nCLASS=\"" ++ (195 ∷ (169 ∷ (codes "\">&#xD800;</TD ><Th\nClass=\"\"\n>&#x" ++ (9 ∷ (codes "</Th> <TD\nROWSPAN=\"1\">" ++ (240 ∷ 159 ∷ 145 ∷ 141 ∷ codes "&#10;</TD >\n</TR>\r\n</tbody ></table>\r\n"))))))))) ≡ table [] (Some []) (tbody ((td (attribute (codes "class") (195 ∷ 169 ∷ []) ∷ []) (239 ∷ 191 ∷ 189 ∷ []) ∷ th (attribute (codes "class") [] ∷ []) (codes "&#x" ++ (9 ∷ [])) ∷ td (attribute (codes "rowspan") (codes "1") ∷ []) (240 ∷ 159 ∷ 145 ∷ 141 ∷ codes "\n") ∷ []) ∷ []) ∷ [])
  pub read_26 : parsed (codes "<table ><caption >&#65;&#xg" ++ (195 ∷ 169 ∷ 194 ∷ 128 ∷ codes "</caption>\r\n<Tbody\n>\n</TBODY></TABLE >")) ≡ table [] (Some (codes "A&#xg" ++ (195 ∷ 169 ∷ 194 ∷ 128 ∷ []))) (tbody [] ∷ [])
  pub read_27 : parsed (codes "<TABLE> <thead>\n<Tr\n>\r\n<Td\ncolspan= \"2\"\n>&#65;</TD><Th>\"</th>  </tr> <tr ></TR></thead>  </table>  ") ≡ table [] None (thead ((td (attribute (codes "colspan") (codes "2") ∷ []) (codes "A") ∷ th [] (codes "\"") ∷ []) ∷ [] ∷ []) ∷ [])
  pub read_28 : parsed (codes "<table >" ++ (9 ∷ (codes "<tbody >\n<TR>  <td colspan=\"0\"></Td>  <td " ++ (9 ∷ (codes "rowspan=\"65535\"\n>&gt;&#x41;</Td>\r\n</Tr>\n<TR>" ++ (12 ∷ (codes "<td >&#x</TD><td " ++ (9 ∷ codes "Colspan=\"2\">&amp;a</TD></Tr> </TBODY > </Table>")))))))) ≡ table [] None (tbody ((td (attribute (codes "colspan") (codes "0") ∷ []) [] ∷ td (attribute (codes "rowspan") (codes "65535") ∷ []) (codes ">A") ∷ []) ∷ (td [] (codes "&#x") ∷ td (attribute (codes "colspan") (codes "2") ∷ []) (codes "&a") ∷ []) ∷ []) ∷ [])
  pub read_29 : parsed (codes "<table class=\"wide\"> <TR\n>\r\n<td\nRowspan=\"0\"\n>&#X4a</td>" ++ (9 ∷ codes "</Tr></table>")) ≡ table (attribute (codes "class") (codes "wide") ∷ []) None (tbody ((td (attribute (codes "rowspan") (codes "0") ∷ []) (codes "J") ∷ []) ∷ []) ∷ [])
  pub read_30 : parsed (codes "<TABLE\n><THEAD\n><tr>" ++ (12 ∷ (codes "<td\n>]]></TD><td\nCOLSPAN=\n\"2000\">" ++ (226 ∷ (128 ∷ (168 ∷ (codes "&gt;</Td > <td" ++ (12 ∷ (codes "class=\"a\r\nb\">" ++ (240 ∷ 159 ∷ 145 ∷ 141 ∷ codes "</td></Tr> </THEAD>\r\n</table >\n")))))))))) ≡ table [] None (thead ((td [] (codes "]]>") ∷ td (attribute (codes "colspan") (codes "2000") ∷ []) (226 ∷ 128 ∷ 168 ∷ codes ">") ∷ td (attribute (codes "class") (codes "a\nb") ∷ []) (240 ∷ 159 ∷ 145 ∷ 141 ∷ []) ∷ []) ∷ []) ∷ [])
  pub read_31 : parsed (codes "<table\n><thead\n><Tr\n>\r\n<Td>&#x41;</td >\r\n</TR ><tr><TD\r\nclass= \"3\"" ++ (12 ∷ (codes "colspan=\"0\"\n>" ++ (0 ∷ (codes "</td >  </tr><TR><th\nRowspan=\"0\" colspan=\"2000\"" ++ (12 ∷ codes "class=\"a b\"></Th> </TR>\n</thead ></Table>")))))) ≡ table [] None (thead ((td [] (codes "A") ∷ []) ∷ (td (attribute (codes "class") (codes "3") ∷ attribute (codes "colspan") (codes "0") ∷ []) [] ∷ []) ∷ (th (attribute (codes "rowspan") (codes "0") ∷ attribute (codes "colspan") (codes "2000") ∷ attribute (codes "class") (codes "a b") ∷ []) [] ∷ []) ∷ []) ∷ [])
  pub read_32 : parsed (codes "<table>\r\n<thead>\n</thead >\n<Tr\n>\n<td\r\nclass= \"<'>\" " ++ (9 ∷ (codes "colspan=\"3\"" ++ (12 ∷ codes "colspan=\n\"02\" ></TD >\n</Tr> <TR></tr ></table >")))) ≡ table [] None (thead [] ∷ tbody ((td (attribute (codes "class") (codes "<'>") ∷ attribute (codes "colspan") (codes "3") ∷ []) [] ∷ []) ∷ [] ∷ []) ∷ [])
  pub read_33 : parsed (codes "<Table\n> <Caption>&#1114112;&&&#xD800;&#129;</caption >\n<THEAD>" ++ (12 ∷ (codes "<tr ><th\r\nColspan=\n\"02\"\r\nCLASS=\"" ++ (195 ∷ (169 ∷ (codes "\">&lt;&#10;</Th>\r\n<td>&#x&#xg</TD>\r\n</tr><Tr>" ++ (9 ∷ (codes "<th>>&#xD800;</TH>\r\n</TR>" ++ (9 ∷ codes "</THEAD></Table>"))))))))) ≡ table [] (Some (239 ∷ (191 ∷ (189 ∷ (codes "&&" ++ (239 ∷ 191 ∷ 189 ∷ 194 ∷ 129 ∷ [])))))) (thead ((th (attribute (codes "colspan") (codes "02") ∷ attribute (codes "class") (195 ∷ 169 ∷ []) ∷ []) (codes "<\n") ∷ td [] (codes "&#x&#xg") ∷ []) ∷ (th [] (codes ">" ++ (239 ∷ 191 ∷ 189 ∷ [])) ∷ []) ∷ []) ∷ [])
  pub read_34 : parsed (codes "<table >\n<CAPTION>>&#x41;&#0;&#x</CAPTION>" ++ (12 ∷ (codes "<tbody\n>  <Tr\n>  </TR><TR\n>" ++ (12 ∷ codes "</tr></tbody></table>")))) ≡ table [] (Some (codes ">A" ++ (239 ∷ 191 ∷ 189 ∷ codes "&#x"))) (tbody ([] ∷ [] ∷ []) ∷ [])
  pub read_35 : parsed (codes "<table><TR>  </tr >  <tr ><Td>\r\na&amp;&#xFFFF;</td>\r\n<Td " ++ (9 ∷ (codes "ROWSPAN=\"3\" Colspan=\"02\" CLASS=\"3\"\n>&#xg</Td><th\r\nrowspan=\"002\">&;" ++ (12 ∷ (codes "&#x80;&-</th>\n</TR>" ++ (9 ∷ codes "</TABLE>\n")))))) ≡ table [] None (tbody ([] ∷ (td [] (codes "\na&" ++ (239 ∷ 191 ∷ 191 ∷ [])) ∷ td (attribute (codes "rowspan") (codes "3") ∷ attribute (codes "colspan") (codes "02") ∷ attribute (codes "class") (codes "3") ∷ []) (codes "&#xg") ∷ th (attribute (codes "rowspan") (codes "002") ∷ []) (codes "&;" ++ (12 ∷ 226 ∷ 130 ∷ 172 ∷ codes "&-")) ∷ []) ∷ []) ∷ [])

-- how many columns the tables of odd elements have, and which cells each slot
pub record AreOddFormed : Type 0 where
  pub wide_0 : (let f : Forming = forming_a_table (tbody ((td (attribute (codes "colspan") (codes "0") ∷ attribute (codes "rowspan") (codes "3") ∷ []) (codes "1") ∷ td (attribute (codes "colspan") (codes "1") ∷ attribute (codes "rowspan") (codes "0") ∷ []) (codes "2") ∷ td (attribute (codes "rowspan") (codes "9") ∷ []) (codes "3") ∷ []) ∷ (td [] (codes "4") ∷ td (attribute (codes "colspan") (codes "0") ∷ attribute (codes "rowspan") (codes "3") ∷ []) (codes "5") ∷ td (attribute (codes "colspan") (codes "0") ∷ []) (codes "6") ∷ []) ∷ (td (attribute (codes "colspan") (codes "1") ∷ []) (codes "7") ∷ td (attribute (codes "rowspan") (codes "1") ∷ []) (codes "8") ∷ td (attribute (codes "rowspan") (codes "0") ∷ []) (codes "9") ∷ []) ∷ (td (attribute (codes "colspan") (codes "2") ∷ []) (codes "10") ∷ td (attribute (codes "colspan") (codes "1") ∷ attribute (codes "rowspan") (codes "1") ∷ []) (codes "11") ∷ []) ∷ []) ∷ []) in
      f.xwidth ∷ [] ≡ 7 ∷ [])
  pub wide_1 : (let f : Forming = forming_a_table (tbody ((td (attribute (codes "rowspan") (codes "2") ∷ []) (codes "1") ∷ []) ∷ []) ∷ []) in
      f.xwidth ∷ [] ≡ 1 ∷ [])
  pub wide_2 : (let f : Forming = forming_a_table (thead ((td (attribute (codes "rowspan") (codes "9") ∷ []) (codes "1") ∷ []) ∷ (td (attribute (codes "colspan") (codes "0") ∷ attribute (codes "rowspan") (codes "9") ∷ []) (codes "2") ∷ []) ∷ (td (attribute (codes "rowspan") (codes "2") ∷ []) (codes "3") ∷ td (attribute (codes "rowspan") (codes "1") ∷ []) (codes "4") ∷ td (attribute (codes "colspan") (codes "3") ∷ []) (codes "5") ∷ []) ∷ []) ∷ []) in
      f.xwidth ∷ [] ≡ 7 ∷ [])
  pub wide_3 : (let f : Forming = forming_a_table (tbody ([] ∷ (td (attribute (codes "colspan") (codes "3") ∷ attribute (codes "rowspan") (codes "0") ∷ []) (codes "1") ∷ td (attribute (codes "rowspan") (codes "3") ∷ []) (codes "2") ∷ td (attribute (codes "colspan") (codes "2") ∷ []) (codes "3") ∷ []) ∷ (td (attribute (codes "colspan") (codes "2") ∷ []) (codes "4") ∷ td (attribute (codes "colspan") (codes "3") ∷ attribute (codes "rowspan") (codes "1") ∷ []) (codes "5") ∷ []) ∷ []) ∷ []) in
      f.xwidth ∷ [] ≡ 9 ∷ [])
  pub wide_4 : (let f : Forming = forming_a_table (tbody ((td (attribute (codes "colspan") (codes "3") ∷ []) (codes "1") ∷ td (attribute (codes "rowspan") (codes "9") ∷ []) (codes "2") ∷ []) ∷ []) ∷ []) in
      f.xwidth ∷ [] ≡ 4 ∷ [])
  pub wide_5 : (let f : Forming = forming_a_table (thead ((td (attribute (codes "rowspan") (codes "1") ∷ []) (codes "1") ∷ []) ∷ [] ∷ []) ∷ tbody ((td (attribute (codes "colspan") (codes "2") ∷ attribute (codes "rowspan") (codes "0") ∷ []) (codes "2") ∷ []) ∷ (td (attribute (codes "rowspan") (codes "2") ∷ []) (codes "3") ∷ []) ∷ []) ∷ []) in
      f.xwidth ∷ [] ≡ 3 ∷ [])
  pub wide_6 : (let f : Forming = forming_a_table (thead ((td (attribute (codes "colspan") (codes "3") ∷ []) (codes "1") ∷ td (attribute (codes "rowspan") (codes "0") ∷ []) (codes "2") ∷ []) ∷ [] ∷ (td (attribute (codes "rowspan") (codes "0") ∷ []) (codes "3") ∷ td (attribute (codes "colspan") (codes "1") ∷ []) (codes "4") ∷ []) ∷ []) ∷ []) in
      f.xwidth ∷ [] ≡ 4 ∷ [])
  pub wide_7 : (let f : Forming = forming_a_table (tbody ((td (attribute (codes "rowspan") (codes "3") ∷ []) (codes "1") ∷ []) ∷ []) ∷ []) in
      f.xwidth ∷ [] ≡ 1 ∷ [])
  pub wide_8 : (let f : Forming = forming_a_table (tbody ((td (attribute (codes "colspan") (codes "2") ∷ []) (codes "1") ∷ td (attribute (codes "colspan") (codes "0") ∷ attribute (codes "rowspan") (codes "0") ∷ []) (codes "2") ∷ []) ∷ [] ∷ []) ∷ []) in
      f.xwidth ∷ [] ≡ 3 ∷ [])
  pub wide_9 : (let f : Forming = forming_a_table (thead ((td (attribute (codes "colspan") (codes "4") ∷ attribute (codes "rowspan") (codes "0") ∷ []) (codes "1") ∷ td (attribute (codes "colspan") (codes "3") ∷ attribute (codes "rowspan") (codes "0") ∷ []) (codes "2") ∷ []) ∷ (td [] (codes "3") ∷ td [] (codes "4") ∷ []) ∷ [] ∷ []) ∷ []) in
      f.xwidth ∷ [] ≡ 9 ∷ [])
  pub wide_10 : (let f : Forming = forming_a_table (tbody ([] ∷ [] ∷ (td (attribute (codes "colspan") (codes "0") ∷ attribute (codes "rowspan") (codes "3") ∷ []) (codes "1") ∷ td (attribute (codes "colspan") (codes "3") ∷ attribute (codes "rowspan") (codes "2") ∷ []) (codes "2") ∷ []) ∷ (td (attribute (codes "colspan") (codes "1") ∷ attribute (codes "rowspan") (codes "2") ∷ []) (codes "3") ∷ []) ∷ []) ∷ []) in
      f.xwidth ∷ [] ≡ 5 ∷ [])
  pub wide_11 : (let f : Forming = forming_a_table (tbody ((td [] (codes "1") ∷ td (attribute (codes "colspan") (codes "3") ∷ attribute (codes "rowspan") (codes "2") ∷ []) (codes "2") ∷ td (attribute (codes "colspan") (codes "3") ∷ []) (codes "3") ∷ []) ∷ (td (attribute (codes "rowspan") (codes "9") ∷ []) (codes "4") ∷ td [] (codes "5") ∷ td (attribute (codes "colspan") (codes "4") ∷ []) (codes "6") ∷ []) ∷ []) ∷ []) in
      f.xwidth ∷ [] ≡ 9 ∷ [])
  pub slots_0 : (let f : Forming = forming_a_table (tbody ((td (attribute (codes "colspan") (codes "0") ∷ attribute (codes "rowspan") (codes "3") ∷ []) (codes "1") ∷ td (attribute (codes "colspan") (codes "1") ∷ attribute (codes "rowspan") (codes "0") ∷ []) (codes "2") ∷ td (attribute (codes "rowspan") (codes "9") ∷ []) (codes "3") ∷ []) ∷ (td [] (codes "4") ∷ td (attribute (codes "colspan") (codes "0") ∷ attribute (codes "rowspan") (codes "3") ∷ []) (codes "5") ∷ td (attribute (codes "colspan") (codes "0") ∷ []) (codes "6") ∷ []) ∷ (td (attribute (codes "colspan") (codes "1") ∷ []) (codes "7") ∷ td (attribute (codes "rowspan") (codes "1") ∷ []) (codes "8") ∷ td (attribute (codes "rowspan") (codes "0") ∷ []) (codes "9") ∷ []) ∷ (td (attribute (codes "colspan") (codes "2") ∷ []) (codes "10") ∷ td (attribute (codes "colspan") (codes "1") ∷ attribute (codes "rowspan") (codes "1") ∷ []) (codes "11") ∷ []) ∷ []) ∷ []) in
      map (λ (place : ℕ × ℕ). map (λ (c : Cell). c.element.text) (cells_at f.covered place.1 place.0)) ((0, 0) ∷ (0, 1) ∷ (0, 2) ∷ (0, 3) ∷ (0, 4) ∷ (0, 5) ∷ (0, 6) ∷ (1, 0) ∷ (1, 1) ∷ (1, 2) ∷ (1, 3) ∷ (1, 4) ∷ (1, 5) ∷ (1, 6) ∷ (2, 0) ∷ (2, 1) ∷ (2, 2) ∷ (2, 3) ∷ (2, 4) ∷ (2, 5) ∷ (2, 6) ∷ (3, 0) ∷ (3, 1) ∷ (3, 2) ∷ (3, 3) ∷ (3, 4) ∷ (3, 5) ∷ (3, 6) ∷ []) ≡ ((codes "1" ∷ []) ∷ (codes "2" ∷ []) ∷ (codes "3" ∷ []) ∷ [] ∷ [] ∷ [] ∷ [] ∷ (codes "1" ∷ []) ∷ (codes "2" ∷ []) ∷ (codes "3" ∷ []) ∷ (codes "4" ∷ []) ∷ (codes "5" ∷ []) ∷ (codes "6" ∷ []) ∷ [] ∷ (codes "1" ∷ []) ∷ (codes "2" ∷ []) ∷ (codes "3" ∷ []) ∷ (codes "7" ∷ []) ∷ (codes "5" ∷ []) ∷ (codes "8" ∷ []) ∷ (codes "9" ∷ []) ∷ (codes "10" ∷ []) ∷ (codes "2" ∷ codes "10" ∷ []) ∷ (codes "3" ∷ []) ∷ (codes "11" ∷ []) ∷ (codes "5" ∷ []) ∷ [] ∷ (codes "9" ∷ []) ∷ []))
  pub slots_1 : (let f : Forming = forming_a_table (tbody ((td (attribute (codes "rowspan") (codes "2") ∷ []) (codes "1") ∷ []) ∷ []) ∷ []) in
      map (λ (place : ℕ × ℕ). map (λ (c : Cell). c.element.text) (cells_at f.covered place.1 place.0)) ((0, 0) ∷ []) ≡ ((codes "1" ∷ []) ∷ []))
  pub slots_2 : (let f : Forming = forming_a_table (thead ((td (attribute (codes "rowspan") (codes "9") ∷ []) (codes "1") ∷ []) ∷ (td (attribute (codes "colspan") (codes "0") ∷ attribute (codes "rowspan") (codes "9") ∷ []) (codes "2") ∷ []) ∷ (td (attribute (codes "rowspan") (codes "2") ∷ []) (codes "3") ∷ td (attribute (codes "rowspan") (codes "1") ∷ []) (codes "4") ∷ td (attribute (codes "colspan") (codes "3") ∷ []) (codes "5") ∷ []) ∷ []) ∷ []) in
      map (λ (place : ℕ × ℕ). map (λ (c : Cell). c.element.text) (cells_at f.covered place.1 place.0)) ((0, 0) ∷ (0, 1) ∷ (0, 2) ∷ (0, 3) ∷ (0, 4) ∷ (0, 5) ∷ (0, 6) ∷ (1, 0) ∷ (1, 1) ∷ (1, 2) ∷ (1, 3) ∷ (1, 4) ∷ (1, 5) ∷ (1, 6) ∷ (2, 0) ∷ (2, 1) ∷ (2, 2) ∷ (2, 3) ∷ (2, 4) ∷ (2, 5) ∷ (2, 6) ∷ []) ≡ ((codes "1" ∷ []) ∷ [] ∷ [] ∷ [] ∷ [] ∷ [] ∷ [] ∷ (codes "1" ∷ []) ∷ (codes "2" ∷ []) ∷ [] ∷ [] ∷ [] ∷ [] ∷ [] ∷ (codes "1" ∷ []) ∷ (codes "2" ∷ []) ∷ (codes "3" ∷ []) ∷ (codes "4" ∷ []) ∷ (codes "5" ∷ []) ∷ (codes "5" ∷ []) ∷ (codes "5" ∷ []) ∷ []))
  pub slots_3 : (let f : Forming = forming_a_table (tbody ([] ∷ (td (attribute (codes "colspan") (codes "3") ∷ attribute (codes "rowspan") (codes "0") ∷ []) (codes "1") ∷ td (attribute (codes "rowspan") (codes "3") ∷ []) (codes "2") ∷ td (attribute (codes "colspan") (codes "2") ∷ []) (codes "3") ∷ []) ∷ (td (attribute (codes "colspan") (codes "2") ∷ []) (codes "4") ∷ td (attribute (codes "colspan") (codes "3") ∷ attribute (codes "rowspan") (codes "1") ∷ []) (codes "5") ∷ []) ∷ []) ∷ []) in
      map (λ (place : ℕ × ℕ). map (λ (c : Cell). c.element.text) (cells_at f.covered place.1 place.0)) ((0, 0) ∷ (0, 1) ∷ (0, 2) ∷ (0, 3) ∷ (0, 4) ∷ (0, 5) ∷ (0, 6) ∷ (0, 7) ∷ (1, 0) ∷ (1, 1) ∷ (1, 2) ∷ (1, 3) ∷ (1, 4) ∷ (1, 5) ∷ (1, 6) ∷ (1, 7) ∷ (2, 0) ∷ (2, 1) ∷ (2, 2) ∷ (2, 3) ∷ (2, 4) ∷ (2, 5) ∷ (2, 6) ∷ (2, 7) ∷ []) ≡ ([] ∷ [] ∷ [] ∷ [] ∷ [] ∷ [] ∷ [] ∷ [] ∷ (codes "1" ∷ []) ∷ (codes "1" ∷ []) ∷ (codes "1" ∷ []) ∷ (codes "2" ∷ []) ∷ (codes "3" ∷ []) ∷ (codes "3" ∷ []) ∷ [] ∷ [] ∷ (codes "1" ∷ []) ∷ (codes "1" ∷ []) ∷ (codes "1" ∷ []) ∷ (codes "2" ∷ []) ∷ (codes "4" ∷ []) ∷ (codes "4" ∷ []) ∷ (codes "5" ∷ []) ∷ (codes "5" ∷ []) ∷ []))
  pub slots_4 : (let f : Forming = forming_a_table (tbody ((td (attribute (codes "colspan") (codes "3") ∷ []) (codes "1") ∷ td (attribute (codes "rowspan") (codes "9") ∷ []) (codes "2") ∷ []) ∷ []) ∷ []) in
      map (λ (place : ℕ × ℕ). map (λ (c : Cell). c.element.text) (cells_at f.covered place.1 place.0)) ((0, 0) ∷ (0, 1) ∷ (0, 2) ∷ (0, 3) ∷ []) ≡ ((codes "1" ∷ []) ∷ (codes "1" ∷ []) ∷ (codes "1" ∷ []) ∷ (codes "2" ∷ []) ∷ []))
  pub slots_5 : (let f : Forming = forming_a_table (thead ((td (attribute (codes "rowspan") (codes "1") ∷ []) (codes "1") ∷ []) ∷ [] ∷ []) ∷ tbody ((td (attribute (codes "colspan") (codes "2") ∷ attribute (codes "rowspan") (codes "0") ∷ []) (codes "2") ∷ []) ∷ (td (attribute (codes "rowspan") (codes "2") ∷ []) (codes "3") ∷ []) ∷ []) ∷ []) in
      map (λ (place : ℕ × ℕ). map (λ (c : Cell). c.element.text) (cells_at f.covered place.1 place.0)) ((0, 0) ∷ (0, 1) ∷ (0, 2) ∷ (1, 0) ∷ (1, 1) ∷ (1, 2) ∷ (2, 0) ∷ (2, 1) ∷ (2, 2) ∷ (3, 0) ∷ (3, 1) ∷ (3, 2) ∷ []) ≡ ((codes "1" ∷ []) ∷ [] ∷ [] ∷ [] ∷ [] ∷ [] ∷ (codes "2" ∷ []) ∷ (codes "2" ∷ []) ∷ [] ∷ (codes "2" ∷ []) ∷ (codes "2" ∷ []) ∷ (codes "3" ∷ []) ∷ []))
  pub slots_6 : (let f : Forming = forming_a_table (thead ((td (attribute (codes "colspan") (codes "3") ∷ []) (codes "1") ∷ td (attribute (codes "rowspan") (codes "0") ∷ []) (codes "2") ∷ []) ∷ [] ∷ (td (attribute (codes "rowspan") (codes "0") ∷ []) (codes "3") ∷ td (attribute (codes "colspan") (codes "1") ∷ []) (codes "4") ∷ []) ∷ []) ∷ []) in
      map (λ (place : ℕ × ℕ). map (λ (c : Cell). c.element.text) (cells_at f.covered place.1 place.0)) ((0, 0) ∷ (0, 1) ∷ (0, 2) ∷ (0, 3) ∷ (1, 0) ∷ (1, 1) ∷ (1, 2) ∷ (1, 3) ∷ (2, 0) ∷ (2, 1) ∷ (2, 2) ∷ (2, 3) ∷ []) ≡ ((codes "1" ∷ []) ∷ (codes "1" ∷ []) ∷ (codes "1" ∷ []) ∷ (codes "2" ∷ []) ∷ [] ∷ [] ∷ [] ∷ (codes "2" ∷ []) ∷ (codes "3" ∷ []) ∷ (codes "4" ∷ []) ∷ [] ∷ (codes "2" ∷ []) ∷ []))
  pub slots_7 : (let f : Forming = forming_a_table (tbody ((td (attribute (codes "rowspan") (codes "3") ∷ []) (codes "1") ∷ []) ∷ []) ∷ []) in
      map (λ (place : ℕ × ℕ). map (λ (c : Cell). c.element.text) (cells_at f.covered place.1 place.0)) ((0, 0) ∷ []) ≡ ((codes "1" ∷ []) ∷ []))
  pub slots_8 : (let f : Forming = forming_a_table (tbody ((td (attribute (codes "colspan") (codes "2") ∷ []) (codes "1") ∷ td (attribute (codes "colspan") (codes "0") ∷ attribute (codes "rowspan") (codes "0") ∷ []) (codes "2") ∷ []) ∷ [] ∷ []) ∷ []) in
      map (λ (place : ℕ × ℕ). map (λ (c : Cell). c.element.text) (cells_at f.covered place.1 place.0)) ((0, 0) ∷ (0, 1) ∷ (0, 2) ∷ (1, 0) ∷ (1, 1) ∷ (1, 2) ∷ []) ≡ ((codes "1" ∷ []) ∷ (codes "1" ∷ []) ∷ (codes "2" ∷ []) ∷ [] ∷ [] ∷ (codes "2" ∷ []) ∷ []))
  pub slots_9 : (let f : Forming = forming_a_table (thead ((td (attribute (codes "colspan") (codes "4") ∷ attribute (codes "rowspan") (codes "0") ∷ []) (codes "1") ∷ td (attribute (codes "colspan") (codes "3") ∷ attribute (codes "rowspan") (codes "0") ∷ []) (codes "2") ∷ []) ∷ (td [] (codes "3") ∷ td [] (codes "4") ∷ []) ∷ [] ∷ []) ∷ []) in
      map (λ (place : ℕ × ℕ). map (λ (c : Cell). c.element.text) (cells_at f.covered place.1 place.0)) ((0, 0) ∷ (0, 1) ∷ (0, 2) ∷ (0, 3) ∷ (0, 4) ∷ (0, 5) ∷ (0, 6) ∷ (0, 7) ∷ (1, 0) ∷ (1, 1) ∷ (1, 2) ∷ (1, 3) ∷ (1, 4) ∷ (1, 5) ∷ (1, 6) ∷ (1, 7) ∷ (2, 0) ∷ (2, 1) ∷ (2, 2) ∷ (2, 3) ∷ (2, 4) ∷ (2, 5) ∷ (2, 6) ∷ (2, 7) ∷ []) ≡ ((codes "1" ∷ []) ∷ (codes "1" ∷ []) ∷ (codes "1" ∷ []) ∷ (codes "1" ∷ []) ∷ (codes "2" ∷ []) ∷ (codes "2" ∷ []) ∷ (codes "2" ∷ []) ∷ [] ∷ (codes "1" ∷ []) ∷ (codes "1" ∷ []) ∷ (codes "1" ∷ []) ∷ (codes "1" ∷ []) ∷ (codes "2" ∷ []) ∷ (codes "2" ∷ []) ∷ (codes "2" ∷ []) ∷ (codes "3" ∷ []) ∷ (codes "1" ∷ []) ∷ (codes "1" ∷ []) ∷ (codes "1" ∷ []) ∷ (codes "1" ∷ []) ∷ (codes "2" ∷ []) ∷ (codes "2" ∷ []) ∷ (codes "2" ∷ []) ∷ [] ∷ []))
  pub slots_10 : (let f : Forming = forming_a_table (tbody ([] ∷ [] ∷ (td (attribute (codes "colspan") (codes "0") ∷ attribute (codes "rowspan") (codes "3") ∷ []) (codes "1") ∷ td (attribute (codes "colspan") (codes "3") ∷ attribute (codes "rowspan") (codes "2") ∷ []) (codes "2") ∷ []) ∷ (td (attribute (codes "colspan") (codes "1") ∷ attribute (codes "rowspan") (codes "2") ∷ []) (codes "3") ∷ []) ∷ []) ∷ []) in
      map (λ (place : ℕ × ℕ). map (λ (c : Cell). c.element.text) (cells_at f.covered place.1 place.0)) ((0, 0) ∷ (0, 1) ∷ (0, 2) ∷ (0, 3) ∷ (0, 4) ∷ (1, 0) ∷ (1, 1) ∷ (1, 2) ∷ (1, 3) ∷ (1, 4) ∷ (2, 0) ∷ (2, 1) ∷ (2, 2) ∷ (2, 3) ∷ (2, 4) ∷ (3, 0) ∷ (3, 1) ∷ (3, 2) ∷ (3, 3) ∷ (3, 4) ∷ []) ≡ ([] ∷ [] ∷ [] ∷ [] ∷ [] ∷ [] ∷ [] ∷ [] ∷ [] ∷ [] ∷ (codes "1" ∷ []) ∷ (codes "2" ∷ []) ∷ (codes "2" ∷ []) ∷ (codes "2" ∷ []) ∷ [] ∷ (codes "1" ∷ []) ∷ (codes "2" ∷ []) ∷ (codes "2" ∷ []) ∷ (codes "2" ∷ []) ∷ (codes "3" ∷ []) ∷ []))
  pub slots_11 : (let f : Forming = forming_a_table (tbody ((td [] (codes "1") ∷ td (attribute (codes "colspan") (codes "3") ∷ attribute (codes "rowspan") (codes "2") ∷ []) (codes "2") ∷ td (attribute (codes "colspan") (codes "3") ∷ []) (codes "3") ∷ []) ∷ (td (attribute (codes "rowspan") (codes "9") ∷ []) (codes "4") ∷ td [] (codes "5") ∷ td (attribute (codes "colspan") (codes "4") ∷ []) (codes "6") ∷ []) ∷ []) ∷ []) in
      map (λ (place : ℕ × ℕ). map (λ (c : Cell). c.element.text) (cells_at f.covered place.1 place.0)) ((0, 0) ∷ (0, 1) ∷ (0, 2) ∷ (0, 3) ∷ (0, 4) ∷ (0, 5) ∷ (0, 6) ∷ (0, 7) ∷ (1, 0) ∷ (1, 1) ∷ (1, 2) ∷ (1, 3) ∷ (1, 4) ∷ (1, 5) ∷ (1, 6) ∷ (1, 7) ∷ []) ≡ ((codes "1" ∷ []) ∷ (codes "2" ∷ []) ∷ (codes "2" ∷ []) ∷ (codes "2" ∷ []) ∷ (codes "3" ∷ []) ∷ (codes "3" ∷ []) ∷ (codes "3" ∷ []) ∷ [] ∷ (codes "4" ∷ []) ∷ (codes "2" ∷ []) ∷ (codes "2" ∷ []) ∷ (codes "2" ∷ []) ∷ (codes "5" ∷ []) ∷ (codes "6" ∷ []) ∷ (codes "6" ∷ []) ∷ (codes "6" ∷ []) ∷ []))
